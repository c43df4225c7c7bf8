use mathlib.Core.Path.{refl}
use Prim.Native.Nat.{◌<◌}
use native.Mathlib.Omega.{arith}
use lib.ListN.{length, length-set}
use Rattle.utf8.proofs.Runs.{filled_none, filled_next, size_is, filled_inside, filled_more, filled_open, filled_done}
use Rattle.utf8.proofs.Places.{placed_none, placed_more, placed_last}
use borrow.Author.Rules.{rules}
use Rattle.utf8.proofs.fill.Goals as goal

pub loop-at-init : goal.loop-at-init
loop-at-init c = (filled_none _ _, placed_none _ _)

pub overflow_cast-positions : goal.overflow_cast-positions
overflow_cast-positions c =
    let z = filled_open c.requires.s_value c.loop-at.invariant.0 c.loop-at-test.true in
    omega (arith, c.requires.s_len_bound, c.loop-at.invariant.1.near)

pub offset_bounds-positions-n : goal.offset_bounds-positions-n
offset_bounds-positions-n c =
    let z = filled_open c.requires.s_value c.loop-at.invariant.0 c.loop-at-test.true in
    let y : c.loop-at.n < length c.args.positions.now = omega (arith, c.requires.s_in_bounds_2) in
    search rules

pub bounds-positions-n : goal.bounds-positions-n
bounds-positions-n c =
    let z = filled_open c.requires.s_value c.loop-at.invariant.0 c.loop-at-test.true in
    omega (arith, c.requires.s_in_bounds_2, c.loop-at.invariant.1.long)

pub piece_of_e0-q-requires : goal.piece_of_e0-q-requires
piece_of_e0-q-requires c = record { nonzero = filled_next c.requires.s_value c.loop-at.invariant.0 c.loop-at-test.true; at_value = c.if-s-at.true }

pub offset_bounds-out-n : goal.offset_bounds-out-n
offset_bounds-out-n c =
    let z = filled_open c.requires.s_value c.loop-at.invariant.0 c.loop-at-test.true in
    let y : c.loop-at.n < length c.args.out.now = omega (arith, c.requires.s_in_bounds) in
    search rules

pub bounds-out-n : goal.bounds-out-n
bounds-out-n c =
    let z = filled_open c.requires.s_value c.loop-at.invariant.0 c.loop-at-test.true in
    omega (arith, c.requires.s_in_bounds, c.loop-at.invariant.0.long)

pub overflow_add-at : goal.overflow_add-at
overflow_add-at c =
    let z = filled_inside _ c.loop-at.invariant.0 (filled_next c.requires.s_value c.loop-at.invariant.0 c.loop-at-test.true)
    c.piece_of_e0-q.ensures in
    omega arith

pub overflow_add-n : goal.overflow_add-n
overflow_add-n c =
    let z = c.loop-at.invariant.0.read.few in
    let y = c.loop-at.invariant.0.read.inside in
    search rules

pub loop-at-smaller-then-s-at : goal.loop-at-smaller-then-s-at
loop-at-smaller-then-s-at c =
    let z = filled_inside _ c.loop-at.invariant.0 (filled_next c.requires.s_value c.loop-at.invariant.0 c.loop-at-test.true)
    c.piece_of_e0-q.ensures in
    omega arith

pub loop-at-preserved-then-s-at : goal.loop-at-preserved-then-s-at
loop-at-preserved-then-s-at c =
    let i = filled_next c.requires.s_value c.loop-at.invariant.0 c.loop-at-test.true in
    let z = filled_open c.requires.s_value c.loop-at.invariant.0 c.loop-at-test.true in (
      filled_more _ c.loop-at.invariant.0 i c.piece_of_e0-q.ensures c.requires.s_in_bounds,
      placed_more
          c.loop-at.invariant.1 _ _ refl (size_is _ c.loop-at.invariant.0 i c.piece_of_e0-q.ensures)
          (filled_inside _ c.loop-at.invariant.0 i c.piece_of_e0-q.ensures).0 (omega (arith, c.requires.s_in_bounds_2)),
    )

pub piece_at-p-requires : goal.piece_at-p-requires
piece_at-p-requires c = filled_next c.requires.s_value c.loop-at.invariant.0 c.loop-at-test.true

pub offset_bounds-out-n-in-loop-at : goal.offset_bounds-out-n-in-loop-at
offset_bounds-out-n-in-loop-at c =
    let z = filled_open c.requires.s_value c.loop-at.invariant.0 c.loop-at-test.true in
    let y : c.loop-at.n < length c.args.out.now = omega (arith, c.requires.s_in_bounds) in
    search rules

pub bounds-out-n-in-loop-at : goal.bounds-out-n-in-loop-at
bounds-out-n-in-loop-at c =
    let z = filled_open c.requires.s_value c.loop-at.invariant.0 c.loop-at-test.true in
    omega (arith, c.requires.s_in_bounds, c.loop-at.invariant.0.long)

pub overflow_add-at-in-loop-at : goal.overflow_add-at-in-loop-at
overflow_add-at-in-loop-at c =
    let z = filled_inside _ c.loop-at.invariant.0 (filled_next c.requires.s_value c.loop-at.invariant.0 c.loop-at-test.true)
    c.piece_at-p.ensures in
    omega arith

pub overflow_add-n-in-loop-at : goal.overflow_add-n-in-loop-at
overflow_add-n-in-loop-at c =
    let z = c.loop-at.invariant.0.read.few in
    let y = c.loop-at.invariant.0.read.inside in
    search rules

pub loop-at-smaller : goal.loop-at-smaller
loop-at-smaller c =
    let z = filled_inside _ c.loop-at.invariant.0 (filled_next c.requires.s_value c.loop-at.invariant.0 c.loop-at-test.true)
    c.piece_at-p.ensures in
    omega arith

pub loop-at-preserved : goal.loop-at-preserved
loop-at-preserved c =
    let i = filled_next c.requires.s_value c.loop-at.invariant.0 c.loop-at-test.true in
    let z = filled_open c.requires.s_value c.loop-at.invariant.0 c.loop-at-test.true in (
      filled_more _ c.loop-at.invariant.0 i c.piece_at-p.ensures c.requires.s_in_bounds,
      placed_more
          c.loop-at.invariant.1 _ _ refl (size_is _ c.loop-at.invariant.0 i c.piece_at-p.ensures)
          (filled_inside _ c.loop-at.invariant.0 i c.piece_at-p.ensures).0 (omega (arith, c.requires.s_in_bounds_2)),
    )

pub overflow_cast-positions-2 : goal.overflow_cast-positions-2
overflow_cast-positions-2 c =
    omega (
      arith,
      c.requires.s_len_bound,
      c.loop-at.invariant.1.near,
      c.loop-at.invariant.0.read.number,
      c.loop-at-test.false,
    )

pub offset_bounds-positions-n-2 : goal.offset_bounds-positions-n-2
offset_bounds-positions-n-2 c =
    let z = c.loop-at.invariant.0.read.number in
    let y : c.loop-at.n < length c.args.positions.now = omega (arith, c.requires.s_in_bounds_2) in
    search rules

pub bounds-positions-n-2 : goal.bounds-positions-n-2
bounds-positions-n-2 c = omega (arith, c.requires.s_in_bounds_2, c.loop-at.invariant.1.long, c.loop-at.invariant.0.read.number)

pub shape_of-out : goal.shape_of-out
shape_of-out c = c.loop-at.invariant.0.long

pub shape_of-positions : goal.shape_of-positions
shape_of-positions c = simp length-set c.loop-at.invariant.1.long

pub returns : goal.returns
returns c =
    record {
      out_after = filled_done c.loop-at.invariant.0 c.loop-at-test.false;
      positions_after = placed_last c.loop-at.invariant.1 _
          refl c.loop-at.invariant.0.read.inside c.loop-at-test.false
          (omega (arith, c.requires.s_in_bounds_2, c.loop-at.invariant.0.read.number));
    }
