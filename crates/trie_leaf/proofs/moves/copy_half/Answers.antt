use mathlib.Core.Path.{refl}
use Rattle.trie_leaf.proofs.Halves.{copied}
use Rattle.trie_leaf.proofs.moves.copy_half.Goals as goal

pub returns : goal.returns
returns c =
    copied c.args.p.now _ c.args.source c.args.target _ _ _ _ refl refl refl refl
    c.put_half.ensures
