use Rattle.std.proofs.Common.{length}
use Rattle.why_lines.proofs.RunProgram.take.Given as goal

abbrev pub decreases-loop-output : goal.decreases-loop-output
decreases-loop-output g l = length l.rest
