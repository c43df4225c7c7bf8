use native.Mathlib.Omega.{arith}
use Rattle.tcc.proofs.Passes.{matched, counted_none, counted_next, counted_all}
use Rattle.tcc.proofs.count_ends.Goals as goal

pub loop-p-init : goal.loop-p-init
loop-p-init c = counted_none _

pub cluster_end-p-requires : goal.cluster_end-p-requires
cluster_end-p-requires c = c.loop-p-test.true

pub overflow_add-n : goal.overflow_add-n
overflow_add-n c = omega (arith, c.loop-p.invariant.few, c.loop-p.invariant.inside)

pub loop-p-smaller : goal.loop-p-smaller
loop-p-smaller c = omega (arith, (matched c.loop-p-test.true c.cluster_end-p.ensures).past, c.loop-p-test.true)

pub loop-p-preserved : goal.loop-p-preserved
loop-p-preserved c = counted_next c.loop-p.invariant c.loop-p-test.true c.cluster_end-p.ensures

pub returns : goal.returns
returns c = counted_all c.loop-p.invariant c.loop-p-test.false
