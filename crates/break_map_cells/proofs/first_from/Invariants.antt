use Prim.Native.Nat.{◌*◌, ◌-◌}
use lib.ListN.{length}
use Rattle.break_map_cells.proofs.Reading.{Past}
use Rattle.break_map_cells.proofs.first_from.Given as goal

abbrev pub invariant-loop-p : goal.invariant-loop-p
invariant-loop-p l = Past l.map (length l.map) l.from l.p

abbrev pub decreases-loop-p : goal.decreases-loop-p
decreases-loop-p l = 64 * length l.map - l.p
