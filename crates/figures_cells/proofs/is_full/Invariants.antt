use Rattle.figures_cells.proofs.Cells.{Under}
use Rattle.figures_cells.proofs.is_full.Given as goal

abbrev pub invariant-loop-i : goal.invariant-loop-i
invariant-loop-i l = Under l.figures l.more l.i
