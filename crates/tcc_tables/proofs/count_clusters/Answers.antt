use native.Mathlib.Omega.{arith}
use Rattle.tcc.proofs.Passes.{matched, counted_none, counted_next, counted_all}
use Rattle.tcc_engine.proofs.Telling.{told_end}
use Rattle.tcc_tables.proofs.count_clusters.Goals as goal

pub loop-p-init : goal.loop-p-init
loop-p-init c = counted_none _

pub overflow_add-n : goal.overflow_add-n
overflow_add-n c = omega (arith, c.loop-p.invariant.few, c.loop-p.invariant.inside)

pub loop-p-smaller : goal.loop-p-smaller
loop-p-smaller c = omega (arith, (matched c.loop-p-test.true (told_end _ _ c.next_cluster-won.ensures)).past, c.loop-p-test.true)

pub loop-p-preserved : goal.loop-p-preserved
loop-p-preserved c = counted_next c.loop-p.invariant c.loop-p-test.true (told_end _ _ c.next_cluster-won.ensures)

pub returns : goal.returns
returns c = counted_all c.loop-p.invariant c.loop-p-test.false
