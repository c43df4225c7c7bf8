use mathlib.Core.Path.{refl}
use lib.ListN.{take}
use Rattle.image_word.proofs.Words.{below_nothing, word_follows}
use Rattle.image_word.proofs.WordReader.take_next.Goals as goal

pub returns-in_err-shared : goal.returns-in_err-shared
returns-in_err-shared c =
    rw c.from_residual-in_err-shared.ensures (let h = c.from-size.ensures in rw h at (below_nothing _ c.in_ok-n.ensures c.in_err-shared.ensures))

pub returns : goal.returns
returns c =
    let h = c.in_ok-shared.ensures in
    let follows = word_follows (take c.from-size.result c.args.self.now.last) c.in_ok-n.ensures c.args.self.now.last h.0 h.1 h.2 in
    (let a = c.from-size.ensures in rw a at follows, refl)
