use Rattle.cells.proofs.Filling.{Filled}
use Rattle.cells.proofs.copy.Given as goal

abbrev pub invariant-loop-i : goal.invariant-loop-i
invariant-loop-i l = Filled l.from l.initial.to l.to l.k l.i
