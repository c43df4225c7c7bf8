use Prim.Native.Nat.{ℕ, ◌-◌}
use mathlib.Core.List.{List}
use lib.ListN.{length}
use Rattle.sheet_texts.proofs.Spacing.{Spaced}
use Rattle.sheet_texts.proofs.write_ends.Given as goal

abbrev pub invariant-loop-i : goal.invariant-loop-i
invariant-loop-i l = (base : List ℕ) → Spaced base l.row l.initial.out l.initial.used 1 → Spaced base l.row l.out l.used l.i

abbrev pub decreases-loop-i : goal.decreases-loop-i
decreases-loop-i l = length l.row - l.i
