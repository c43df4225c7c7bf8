use lib.ListN.{length}
use Rattle.figures_cells.proofs.Counting.{Counting}
use Rattle.figures_cells.proofs.of_cut.Given as goal

abbrev pub invariant-loop-c : goal.invariant-loop-c
invariant-loop-c l = Counting l.characters (length l.cells) l.edges l.cells l.one l.c-index
