use native.Mathlib.Omega.{arith}
use mathlib.Core.Path.{refl}
use lib.ListN.{length-set}
use Rattle.newmm_bfs.proofs.Tracing.{put_none, bound, same_size, index, put_more, put_all}
use Rattle.newmm_bfs.proofs.put_way.Goals as goal

pub loop-i-init : goal.loop-i-init
loop-i-init c = put_none c.requires.v_lt_m.1 c.requires.sized c.requires.traced_by

pub overflow_cast-row : goal.overflow_cast-row
overflow_cast-row c = omega (arith, c.loop-i.invariant.most, c.requires.sized.small, c.requires.v_lt_m.0)

pub offset_bounds-row-i : goal.offset_bounds-row-i
offset_bounds-row-i c = omega (arith, bound c.requires.v_lt_m.1 c.requires.sized c.loop-i.invariant, c.requires.v_lt_m.1, c.requires.sized.small)

pub bounds-row-i : goal.bounds-row-i
bounds-row-i c = index c.requires.v_lt_m.1 c.requires.sized c.loop-i.invariant c.loop-i-test.true

pub bounds-row-m : goal.bounds-row-m
bounds-row-m c =
    let s = same_size c.requires.v_lt_m.1 c.requires.sized c.loop-i.invariant in
    simp length-set (omega (arith, s, c.requires.sized.long, c.loop-i.invariant.most, c.requires.v_lt_m.0))

pub overflow_sub-x : goal.overflow_sub-x
overflow_sub-x c =
    let n = put_more c.requires.v_lt_m.1 c.requires.sized c.loop-i.invariant c.loop-i-test.true _ _ refl
    refl in
    omega (arith, n.0)

pub loop-i-smaller : goal.loop-i-smaller
loop-i-smaller c = let t = c.loop-i-test.true in omega arith

pub loop-i-preserved : goal.loop-i-preserved
loop-i-preserved c =
    let n = put_more c.requires.v_lt_m.1 c.requires.sized c.loop-i.invariant c.loop-i-test.true _ _ refl
    refl in
    n.1

pub shape_of-row : goal.shape_of-row
shape_of-row c = same_size c.requires.v_lt_m.1 c.requires.sized c.loop-i.invariant

pub returns : goal.returns
returns c = put_all c.requires.v_lt_m.1 c.requires.sized c.loop-i.invariant c.loop-i-test.false
