use Rattle.std.proofs.Common.{◌-◌, length}
use Rattle.newmm_non_thai.proofs.Matches.{Through}
use Rattle.newmm_non_thai.proofs.figures.Given as goal

abbrev pub invariant-loop-k : goal.invariant-loop-k
invariant-loop-k g l = Through g.D.Class.has l.s l.i

abbrev pub decreases-loop-k : goal.decreases-loop-k
decreases-loop-k g l = length l.s - l.i
