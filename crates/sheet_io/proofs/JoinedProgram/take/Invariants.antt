use Rattle.std.proofs.Common.{length}
use Rattle.sheet_io.proofs.JoinedProgram.take.Given as goal

abbrev pub decreases-loop-lines : goal.decreases-loop-lines
decreases-loop-lines g l = length l.rest
