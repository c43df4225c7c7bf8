use mathlib.Core.Path.{refl, sym, subst, ◌∙◌}
use Prim.Native.Nat.{ℕ, ◌+◌, ◌-◌, ◌*◌}
use native.Mathlib.Omega.{arith}
use lib.ListN.{get_or, set, length-set}
use Rattle.trie_leaf.specs.inner.Planting.{Planted}
use Rattle.trie_leaf.proofs.Planted.{where_is, bumps, planted, count_small}
use Rattle.trie_leaf.proofs.one_more.plant.Goals as goal

pub overflow_mul-a : goal.overflow_mul-a
overflow_mul-a c = let w = where_is _ _ _ _ _ c.requires in omega arith

pub overflow_sub-f : goal.overflow_sub-f
overflow_sub-f c = let w = where_is _ _ _ _ _ c.requires in omega arith

pub offset_bounds-p-a : goal.offset_bounds-p-a
offset_bounds-p-a c = let w = where_is _ _ _ _ _ c.requires in omega arith

pub bounds-p-a : goal.bounds-p-a
bounds-p-a c = let w = where_is _ _ _ _ _ c.requires in omega arith

pub overflow_sub-f-2 : goal.overflow_sub-f-2
overflow_sub-f-2 c = let w = where_is _ _ _ _ _ c.requires in omega arith

pub offset_bounds-p-a-2 : goal.offset_bounds-p-a-2
offset_bounds-p-a-2 c = let w = where_is _ _ _ _ _ c.requires in omega arith

pub bounds-p-a-2 : goal.bounds-p-a-2
bounds-p-a-2 c = let w = where_is _ _ _ _ _ c.requires in omega arith

pub overflow_add-f : goal.overflow_add-f
overflow_add-f c = let w = where_is _ _ _ _ _ c.requires in omega (arith, w.sum, c.requires.small)

pub shift-requires : goal.shift-requires
shift-requires c = let w = where_is _ _ _ _ _ c.requires in (w.upto, omega (arith, w.room))

pub put_half-requires : goal.put_half-requires
put_half-requires c =
    let w = where_is _ _ _ _ _ c.requires in
    omega (arith, w.upto, w.room, c.shift.auto.p)

pub bump-requires : goal.bump-requires
bump-requires c =
    bumps c.args.p.now _ _ _ _ _ _ _ c.requires (c.put_half.auto.p ∙ c.shift.auto.p)
    c.shift.ensures c.put_half.ensures refl

pub overflow_add-p-2 : goal.overflow_add-p-2
overflow_add-p-2 c =
    omega (
      arith,
      count_small c.args.p.now _ _ _ _ _ _ _ _ c.requires
          (c.bump.auto.p ∙ c.put_half.auto.p ∙ c.shift.auto.p) c.shift.ensures c.put_half.ensures
          c.bump.ensures refl,
    )

pub bounds-p-0 : goal.bounds-p-0
bounds-p-0 c =
    let w = where_is _ _ _ _ _ c.requires in
    simp length-set (omega (arith, w.room, c.bump.auto.p, c.put_half.auto.p, c.shift.auto.p))

pub shape_of-p : goal.shape_of-p
shape_of-p c = simp length-set (c.bump.auto.p ∙ c.put_half.auto.p ∙ c.shift.auto.p)

pub returns : goal.returns
returns c =
    planted c.args.p.now _ _ _ _ _ _ _ _ c.requires
    (c.bump.auto.p ∙ c.put_half.auto.p ∙ c.shift.auto.p) c.shift.ensures c.put_half.ensures
    c.bump.ensures refl
