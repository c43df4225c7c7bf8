use Rattle.image_starts.proofs.Beginning.{Beginning}
use Rattle.image_starts.proofs.starts.Given as goal

abbrev pub invariant-loop-d : goal.invariant-loop-d
invariant-loop-d l = Beginning l.initial.levels l.levels l.first l.d
