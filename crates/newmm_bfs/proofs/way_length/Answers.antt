use native.Mathlib.Omega.{arith}
use mathlib.Core.Path.{refl}
use Rattle.newmm_bfs.proofs.Tracing.{count_none, count_more, count_all}
use Rattle.newmm_bfs.proofs.way_length.Goals as goal

pub loop-x-init : goal.loop-x-init
loop-x-init c = count_none _ c.requires.traced.trace

pub overflow_add-x : goal.overflow_add-x
overflow_add-x c = omega (arith, c.loop-x.invariant.most, c.requires.sized.small, c.requires.v_lt_m)

pub offset_bounds-row-m : goal.offset_bounds-row-m
offset_bounds-row-m c = omega (arith, c.loop-x.invariant.most, c.requires.sized.small, c.requires.v_lt_m)

pub bounds-row-m : goal.bounds-row-m
bounds-row-m c = omega (arith, c.loop-x.invariant.most, c.requires.sized.long, c.requires.v_lt_m)

pub overflow_sub-x : goal.overflow_sub-x
overflow_sub-x c =
    let n = count_more c.loop-x.invariant c.loop-x-test.true refl in
    omega (arith, n.0)

pub overflow_add-k : goal.overflow_add-k
overflow_add-k c = omega (arith, c.loop-x.invariant.most, c.requires.sized.small, c.requires.v_lt_m)

pub loop-x-smaller : goal.loop-x-smaller
loop-x-smaller c = let n = count_more c.loop-x.invariant c.loop-x-test.true refl in n.1

pub loop-x-preserved : goal.loop-x-preserved
loop-x-preserved c = let n = count_more c.loop-x.invariant c.loop-x-test.true refl in n.2

pub returns : goal.returns
returns c = count_all c.loop-x.invariant c.loop-x-test.false
