use Rattle.break_map_cells.proofs.Reading.{Counted}
use Rattle.break_map_cells.proofs.count_up_to.Given as goal

abbrev pub invariant-loop-bits : goal.invariant-loop-bits
invariant-loop-bits l = Counted l.map l.count l.bits-index
