use native.Mathlib.Omega.{arith}
use Rattle.image_starts.proofs.Beginning.{beginning_none, beginning_next, beginning_done, beginning_small}
use Rattle.image_starts.proofs.starts.Goals as goal

pub loop-d-init : goal.loop-d-init
loop-d-init c = beginning_none c.args.levels.now c.requires.many

pub overflow_add-first : goal.overflow_add-first
overflow_add-first c = record { fits = omega (arith, beginning_small c.requires c.loop-d.invariant c.loop-d-test.true) }

pub loop-d-preserved : goal.loop-d-preserved
loop-d-preserved c = beginning_next c.loop-d.invariant c.loop-d-test.true

pub returns : goal.returns
returns c = beginning_done c.loop-d.invariant c.loop-d-test.false
