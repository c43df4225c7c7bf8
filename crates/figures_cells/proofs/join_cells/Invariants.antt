use Rattle.figures_cells.proofs.Cells.{Joining}
use Rattle.figures_cells.proofs.join_cells.Given as goal

abbrev pub invariant-loop-i : goal.invariant-loop-i
invariant-loop-i l = Joining l.initial.figures l.more l.figures l.i
