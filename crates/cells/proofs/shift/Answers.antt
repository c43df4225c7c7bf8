use Prim.Native.Nat.{ℕ, ◌+◌}
use native.Mathlib.Omega.{arith}
use lib.ListN.{take}
use Rattle.std.proofs.lemmas.List.{get_or_default}
use Rattle.std.proofs.lemmas.List.Edits.{map_over_more}
use Rattle.cells.proofs.shift.Goals as goal

pub loop-cell-preserved : goal.loop-cell-preserved
loop-cell-preserved c =
    rw c.narrow.ensures (rw c.wide.ensures (map_over_more (λ (e : ℕ). c.args.by + e) (take c.args.k c.args.row.now) c.loop-cell.cell-items c.loop-cell.cell-index _
    c.loop-cell-test.true c.loop-cell.invariant
    (get_or_default c.loop-cell.cell-items c.loop-cell.cell-index 0 _ (omega (arith, c.loop-cell.auto.cell-items, c.loop-cell-test.true)))))
