use native.Mathlib.Omega.{arith}
use mathlib.Core.List.{[]}
use Rattle.sheet_run.proofs.Turning.{finished}
use Rattle.sheet_steps.proofs.last.Goals as goal

pub returns : goal.returns
returns c = record { finished = finished [] c.args.line.now c.args.pool.now c.args.scalars.now c.args.positions.now c.args.ends.now c.args.scratch.now c.args.out.now c.args.kept (omega arith) (omega arith) (omega arith) (omega arith) (omega arith) (omega arith) (omega arith) _ _ c.finish.ensures.value c.finish.ensures.out_after; value = c.finish.ensures.value; out_after = c.finish.ensures.out_after; rows_after = c.finish.ensures.rows_after }
