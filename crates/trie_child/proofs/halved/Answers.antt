use native.Mathlib.Omega.{arith}
use mathlib.Core.Path.{refl}
use Rattle.trie_child.proofs.Halving.{between_fits, to_upper, to_lower, found}
use Rattle.trie_child.proofs.halved.Goals as goal

pub loop-low-init : goal.loop-low-init
loop-low-init c = c.requires

pub overflow_add-low : goal.overflow_add-low
overflow_add-low c = let h = between_fits _ _ _ _ _ c.loop-low.invariant in omega (arith, h, c.loop-low.invariant.order)

pub overflow_sub-middle : goal.overflow_sub-middle
overflow_sub-middle c = omega (arith, c.loop-low.invariant.order)

pub overflow_add-middle : goal.overflow_add-middle
overflow_add-middle c = let h = between_fits _ _ _ _ _ c.loop-low.invariant in omega (arith, h, c.loop-low.invariant.order)

pub overflow_mul-middle : goal.overflow_mul-middle
overflow_mul-middle c = let h = between_fits _ _ _ _ _ c.loop-low.invariant in omega (arith, h, c.loop-low.invariant.order)

pub offset_bounds-p-middle : goal.offset_bounds-p-middle
offset_bounds-p-middle c = let h = between_fits _ _ _ _ _ c.loop-low.invariant in omega (arith, h, c.loop-low.invariant.order)

pub bounds-p-middle : goal.bounds-p-middle
bounds-p-middle c = let h = between_fits _ _ _ _ _ c.loop-low.invariant in omega (arith, h, c.loop-low.invariant.order)

pub loop-low-smaller-then-p-middle : goal.loop-low-smaller-then-p-middle
loop-low-smaller-then-p-middle c = omega (arith, c.loop-low.invariant.order, c.loop-low-test.true)

pub loop-low-preserved-then-p-middle : goal.loop-low-preserved-then-p-middle
loop-low-preserved-then-p-middle c = to_upper _ _ _ _ _ c.loop-low.invariant _ c.loop-low-test.true refl c.if-p-middle.true

pub loop-low-smaller : goal.loop-low-smaller
loop-low-smaller c = omega (arith, c.loop-low.invariant.order, c.loop-low-test.true)

pub loop-low-preserved : goal.loop-low-preserved
loop-low-preserved c = to_lower _ _ _ _ _ c.loop-low.invariant _ c.loop-low-test.true refl c.if-p-middle.false

pub returns : goal.returns
returns c = found _ _ _ _ _ c.loop-low.invariant c.loop-low-test.false
