use mathlib.Core.Path.{sym, subst, ◌∙◌}
use Prim.Native.Nat.{ℕ, ◌+◌, ◌-◌, ◌*◌}
use native.Mathlib.Omega.{arith}
use lib.ListN.{get_or, set, length-set}
use Rattle.trie_leaf.specs.inner.Plucking.{Plucked}
use Rattle.trie_leaf.proofs.Plucked.{where_is, lowers, plucked, count_some}
use Rattle.trie_leaf.proofs.one_less.pluck.Goals as goal

pub unshift-requires : goal.unshift-requires
unshift-requires c = let w = where_is _ _ _ _ c.requires in (w.upto, omega (arith, w.room))

pub lower-requires : goal.lower-requires
lower-requires c =
    lowers c.args.p.now _ _ _ _ _ c.requires (c.put_half.auto.p ∙ c.unshift.auto.p)
    c.unshift.ensures c.put_half.ensures

pub overflow_sub-p : goal.overflow_sub-p
overflow_sub-p c =
    count_some c.args.p.now _ _ _ _ _ _ c.requires
    (c.lower.auto.p ∙ c.put_half.auto.p ∙ c.unshift.auto.p) c.unshift.ensures
    c.put_half.ensures c.lower.ensures

pub bounds-p-0 : goal.bounds-p-0
bounds-p-0 c =
    let w = where_is _ _ _ _ c.requires in
    simp length-set (omega (arith, w.room, c.lower.auto.p, c.put_half.auto.p, c.unshift.auto.p))

pub shape_of-p : goal.shape_of-p
shape_of-p c = simp length-set (c.lower.auto.p ∙ c.put_half.auto.p ∙ c.unshift.auto.p)

pub returns : goal.returns
returns c =
    plucked c.args.p.now _ _ _ _ _ _ c.requires
    (c.lower.auto.p ∙ c.put_half.auto.p ∙ c.unshift.auto.p) c.unshift.ensures
    c.put_half.ensures c.lower.ensures
