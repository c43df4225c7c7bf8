use Prim.Native.Nat.{ℕ, ◌/◌, ◌%◌}
use native.Mathlib.Omega.{arith}
use mathlib.Core.Path.{ap}
use lib.Bits.{bit_or}
use lib.ListN.{get_or, set}
use Rattle.break_map_rules.proofs.Bits.{one_bit}
use Rattle.break_map_cells.proofs.set_bit.Goals as goal

pub returns : goal.returns
returns c = ap (λ (x : ℕ). set c.args.map.now (c.args.p / 64) (bit_or (get_or c.args.map.now (c.args.p / 64) 0) x)) (one_bit (c.args.p % 64) (omega arith))
