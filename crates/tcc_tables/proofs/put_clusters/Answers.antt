use native.Mathlib.Omega.{arith}
use Rattle.tcc.proofs.Passes.{matched, written_all}
use Rattle.tcc_engine.proofs.Telling.{told_end, told_number}
use Rattle.tcc_tables.proofs.Putting.{putting_none, room_left, putting_next, putting_all}
use Rattle.tcc_tables.proofs.put_clusters.Goals as goal

pub loop-p-init : goal.loop-p-init
loop-p-init c = putting_none _ _ _

pub overflow_cast-ends : goal.overflow_cast-ends
overflow_cast-ends c =
    omega (
      arith,
      (matched c.loop-p-test.true
          (told_end _ _ c.next_cluster-won.ensures)).inside,
      c.requires.text_len_bound,
    )

pub offset_bounds-ends-n : goal.offset_bounds-ends-n
offset_bounds-ends-n c =
    omega (
      arith,
      room_left c.loop-p.invariant
          c.loop-p-test.true,
      c.loop-p.invariant.written.long,
      c.requires.text_in_bounds,
    )

pub bounds-ends-n : goal.bounds-ends-n
bounds-ends-n c =
    omega (
      arith,
      room_left c.loop-p.invariant
          c.loop-p-test.true,
      c.loop-p.invariant.written.long,
      c.requires.text_in_bounds,
    )

pub offset_bounds-winners-n : goal.offset_bounds-winners-n
offset_bounds-winners-n c = omega (arith, room_left c.loop-p.invariant c.loop-p-test.true, c.loop-p.invariant.long, c.requires.text_in_bounds_2)

pub bounds-winners-n : goal.bounds-winners-n
bounds-winners-n c = omega (arith, room_left c.loop-p.invariant c.loop-p-test.true, c.loop-p.invariant.long, c.requires.text_in_bounds_2)

pub overflow_add-n : goal.overflow_add-n
overflow_add-n c = omega (arith, c.loop-p.invariant.written.counted.few, c.loop-p.invariant.written.counted.inside)

pub loop-p-smaller : goal.loop-p-smaller
loop-p-smaller c = omega (arith, (matched c.loop-p-test.true (told_end _ _ c.next_cluster-won.ensures)).past, c.loop-p-test.true)

pub loop-p-preserved : goal.loop-p-preserved
loop-p-preserved c =
    putting_next c.loop-p.invariant c.loop-p-test.true c.requires.text_in_bounds c.requires.text_in_bounds_2
    (told_end _ _ c.next_cluster-won.ensures) (told_number _ _ c.next_cluster-won.ensures)

pub shape_of-ends : goal.shape_of-ends
shape_of-ends c = c.loop-p.invariant.written.long

pub shape_of-winners : goal.shape_of-winners
shape_of-winners c = c.loop-p.invariant.long

pub returns : goal.returns
returns c = record { ends_after = written_all c.loop-p.invariant.written c.loop-p-test.false; winners_after = putting_all c.loop-p.invariant c.loop-p-test.false }
