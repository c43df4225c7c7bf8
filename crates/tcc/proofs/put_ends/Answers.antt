use native.Mathlib.Omega.{arith}
use Rattle.tcc.proofs.Passes.{matched, counted_all, written_none, written_room, written_next, written_all}
use Rattle.tcc.proofs.put_ends.Goals as goal

pub loop-p-init : goal.loop-p-init
loop-p-init c = written_none _ _

pub cluster_end-p-requires : goal.cluster_end-p-requires
cluster_end-p-requires c = c.loop-p-test.true

pub overflow_cast-out : goal.overflow_cast-out
overflow_cast-out c = omega (arith, (matched c.loop-p-test.true c.cluster_end-p.ensures).inside, c.requires.0)

pub offset_bounds-out-n : goal.offset_bounds-out-n
offset_bounds-out-n c = omega (arith, written_room c.loop-p.invariant c.loop-p-test.true, c.loop-p.invariant.long, c.requires.1)

pub bounds-out-n : goal.bounds-out-n
bounds-out-n c = omega (arith, written_room c.loop-p.invariant c.loop-p-test.true, c.loop-p.invariant.long, c.requires.1)

pub overflow_add-n : goal.overflow_add-n
overflow_add-n c = omega (arith, c.loop-p.invariant.counted.few, c.loop-p.invariant.counted.inside)

pub loop-p-smaller : goal.loop-p-smaller
loop-p-smaller c = omega (arith, (matched c.loop-p-test.true c.cluster_end-p.ensures).past, c.loop-p-test.true)

pub loop-p-preserved : goal.loop-p-preserved
loop-p-preserved c = written_next c.requires.1 c.loop-p.invariant c.loop-p-test.true c.cluster_end-p.ensures

pub shape_of-out : goal.shape_of-out
shape_of-out c = c.loop-p.invariant.long

pub returns : goal.returns
returns c = record { value = counted_all c.loop-p.invariant.counted c.loop-p-test.false; out_after = written_all c.loop-p.invariant c.loop-p-test.false }
