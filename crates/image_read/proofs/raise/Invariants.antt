use Rattle.image_read.proofs.Raising.{Raising}
use Rattle.image_read.proofs.raise.Given as goal

abbrev pub invariant-loop-d : goal.invariant-loop-d
invariant-loop-d l = Raising l.initial.levels l.levels l.l l.d
