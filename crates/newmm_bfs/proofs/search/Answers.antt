use Prim.Native.Nat.{◌+◌}
use native.Mathlib.Omega.{arith}
use mathlib.Core.Path.{refl, ◌∙◌}
use lib.ListN.{get_or}
use Rattle.newmm_bfs.proofs.Searching.{agree_same, agree_on, begun, front, taken, index, spans, hit, next, closed, keeps, waits}
use Rattle.newmm_bfs.proofs.Found.{some_way}
use Rattle.newmm_bfs.proofs.search.Goals as goal

pub queue_up-tail-requires : goal.queue_up-tail-requires
queue_up-tail-requires c = record { sized = c.requires.sized; tail_lt_m = (let o = c.requires.order in let i = c.requires.inside in (omega arith, omega arith, omega arith)) }

pub loop-j-init : goal.loop-j-init
loop-j-init c =
    let b = begun _ _ _ _ c.requires _ _ c.queue_up-tail.ensures.value c.queue_up-tail.ensures.row_after in
    (b.0, agree_same _ _, waits b.0 b.1 (some_way c.requires))

pub overflow_add-v : goal.overflow_add-v
overflow_add-v c = let g = c.loop-j.invariant.0.good in omega (arith, c.loop-j.invariant.2, g.sized.small, g.room, g.inside)

pub offset_bounds-row-m : goal.offset_bounds-row-m
offset_bounds-row-m c = let g = c.loop-j.invariant.0.good in omega (arith, c.loop-j.invariant.2, g.sized.small, g.room, g.inside)

pub bounds-row-m : goal.bounds-row-m
bounds-row-m c = let g = c.loop-j.invariant.0.good in omega (arith, c.loop-j.invariant.2, g.sized.long, g.room, g.inside)

pub overflow_add-first : goal.overflow_add-first
overflow_add-first c =
    let f = front c.loop-j.invariant.0 c.loop-j.invariant.2 in
    let g = c.loop-j.invariant.0.good in
    omega (arith, f.1, g.sized.small, g.inside)

pub offset_bounds-row-m-in-loop-j : goal.offset_bounds-row-m-in-loop-j
offset_bounds-row-m-in-loop-j c =
    let f = front c.loop-j.invariant.0 c.loop-j.invariant.2 in
    let g = c.loop-j.invariant.0.good in
    omega (arith, f.1, g.sized.small, g.inside)

pub bounds-row-m-in-loop-j : goal.bounds-row-m-in-loop-j
bounds-row-m-in-loop-j c =
    let f = front c.loop-j.invariant.0 c.loop-j.invariant.2 in
    let g = c.loop-j.invariant.0.good in
    omega (arith, f.1, g.sized.long, g.inside)

pub overflow_add-first-in-loop-j : goal.overflow_add-first-in-loop-j
overflow_add-first-in-loop-j c =
    let f = front c.loop-j.invariant.0 c.loop-j.invariant.2 in
    let g = c.loop-j.invariant.0.good in
    let e = (g.edges (get_or c.loop-j.row (c.args.m + c.loop-j.head) 0) (omega (arith, f.0)) (omega (arith, f.1))).fits in
    omega (arith, e)

pub overflow_add-count : goal.overflow_add-count
overflow_add-count c =
    let f = front c.loop-j.invariant.0 c.loop-j.invariant.2 in
    let g = c.loop-j.invariant.0.good in
    omega (arith, f.1, g.sized.small, g.inside)

pub offset_bounds-row-m-in-loop-j-2 : goal.offset_bounds-row-m-in-loop-j-2
offset_bounds-row-m-in-loop-j-2 c =
    let f = front c.loop-j.invariant.0 c.loop-j.invariant.2 in
    let g = c.loop-j.invariant.0.good in
    omega (arith, f.1, g.sized.small, g.inside)

pub bounds-row-m-in-loop-j-2 : goal.bounds-row-m-in-loop-j-2
bounds-row-m-in-loop-j-2 c =
    let f = front c.loop-j.invariant.0 c.loop-j.invariant.2 in
    let g = c.loop-j.invariant.0.good in
    omega (arith, f.1, g.sized.long, g.inside)

pub loop-j-2-init : goal.loop-j-2-init
loop-j-2-init c = (
  taken c.loop-j.invariant.0 c.loop-j.invariant.2 refl refl refl,
  agree_same _ _,
)

pub overflow_add-x : goal.overflow_add-x
overflow_add-x c = omega (arith, index c.loop-j-2.invariant.0 c.loop-j-2-test.true)

pub offset_bounds-row-first : goal.offset_bounds-row-first
offset_bounds-row-first c = omega (arith, index c.loop-j-2.invariant.0 c.loop-j-2-test.true)

pub bounds-row-first : goal.bounds-row-first
bounds-row-first c = index c.loop-j-2.invariant.0 c.loop-j-2-test.true

pub shape_of-row-then-x-goal : goal.shape_of-row-then-x-goal
shape_of-row-then-x-goal c = c.loop-j-2.invariant.1.size ∙ c.loop-j.invariant.1.size ∙ c.queue_up-tail.auto.row

pub returns-then-x-goal : goal.returns-then-x-goal
returns-then-x-goal c = let b = (begun _ _ _ _ c.requires _ _ c.queue_up-tail.ensures.value c.queue_up-tail.ensures.row_after).1 in let a = agree_on b (agree_on c.loop-j.invariant.1 c.loop-j-2.invariant.1) in record { reaches = hit c.loop-j-2.invariant.0 _ a c.loop-j-2-test.true _ refl c.if-x-goal.true; kept = keeps c.loop-j-2.invariant.0.good a }

pub queue_up-tail-requires-in-loop-j-2 : goal.queue_up-tail-requires-in-loop-j-2
queue_up-tail-requires-in-loop-j-2 c =
    let r = c.loop-j-2.invariant.0 in let s = spans r c.loop-j-2-test.true _ refl in record {
      sized = r.good.sized;
      tail_lt_m = (
        omega (arith, r.good.room, r.good.inside, r.good.order),
        omega (arith, r.below, r.good.inside),
        omega (arith, s.1, r.good.inside),
      );
    }

pub loop-j-2-preserved : goal.loop-j-2-preserved
loop-j-2-preserved c =
    let n = next c.loop-j-2.invariant.0 c.loop-j-2-test.true _ refl c.if-x-goal.false _ _ c.queue_up-tail-in-loop-j-2.ensures.value c.queue_up-tail-in-loop-j-2.ensures.row_after in
    (n.0, agree_on c.loop-j-2.invariant.1 n.1)

pub overflow_add-head : goal.overflow_add-head
overflow_add-head c = let r = c.loop-j-2.invariant.0 in omega (arith, r.good.sized.small, r.good.room, r.good.inside, r.holds.last)

pub loop-j-smaller : goal.loop-j-smaller
loop-j-smaller c = let r = c.loop-j-2.invariant.0 in omega (arith, r.good.room, r.holds.last)

pub loop-j-preserved : goal.loop-j-preserved
loop-j-preserved c =
    let b = (begun _ _ _ _ c.requires _ _ c.queue_up-tail.ensures.value c.queue_up-tail.ensures.row_after).1 in
    let s = closed c.loop-j-2.invariant.0 (let t = c.loop-j-2-test.false in omega arith) in
    let a = agree_on c.loop-j.invariant.1 c.loop-j-2.invariant.1 in
    (s, a, waits s (agree_on b a) (some_way c.requires))
