use mathlib.Core.Path.{sym}
use lib.Seq.{length-take-le}
use Rattle.image_write.proofs.Writing.{own_left, own_room, own_put}
use Rattle.image_write.proofs.put_own.Goals as goal

pub returns-then-mark-eq0 : goal.returns-then-mark-eq0
returns-then-mark-eq0 c =
    own_left c.args.mark c.args.n c.args.from c.args.path.now c.args.out.now
    c.if-mark-eq0.true

pub slice_bounds-put_word-end : goal.slice_bounds-put_word-end
slice_bounds-put_word-end c = sym (length-take-le c.args.n c.args.path.now c.requires.fits)

pub put_word-requires : goal.put_word-requires
put_word-requires c =
    own_room c.args.mark c.args.n c.args.from c.args.path.now c.args.out.now c.requires
    c.if-mark-eq0.false

pub returns : goal.returns
returns c =
    own_put c.args.mark c.args.n c.args.from c.args.path.now c.args.out.now c.requires
    c.if-mark-eq0.false _ _ c.put_word.ensures.value c.put_word.ensures.row_after
