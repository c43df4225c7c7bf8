use native.Mathlib.Omega.{arith}
use Rattle.sheet_run.proofs.Turning.{stepped}
use Rattle.sheet_steps.proofs.step.Goals as goal

pub returns : goal.returns
returns c = record { stepped = stepped c.args.bytes.now c.args.line.now c.args.pool.now c.args.scalars.now c.args.positions.now c.args.ends.now c.args.scratch.now c.args.out.now c.args.kept (omega arith) (omega arith) (omega arith) (omega arith) (omega arith) (omega arith) (omega arith) _ _ _ _ _ _ _ _ c.feed.ensures.value c.feed.ensures.line_after c.feed.ensures.out_after c.feed.ensures.rows_after; value = c.feed.ensures.value; line_after = c.feed.ensures.line_after; out_after = c.feed.ensures.out_after; rows_after = c.feed.ensures.rows_after }
