use Rattle.break_map_cells.proofs.Setting.{SetUpTo}
use Rattle.break_map_cells.proofs.write_bits.Given as goal

abbrev pub invariant-loop-p : goal.invariant-loop-p
invariant-loop-p l = SetUpTo l.positions l.initial.map l.map l.p-index
