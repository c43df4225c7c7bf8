use Prim.Native.Nat.{◌≤◌, ◌-◌}
use mathlib.Core.Path.{◌≡◌}
use lib.ListN.{length}
use Rattle.image_words.proofs.list.Given as goal

abbrev pub invariant-loop-class : goal.invariant-loop-class
invariant-loop-class g l = (1027 ≡ length l.line) × (l.at ≤ length l.image)

abbrev pub decreases-loop-class : goal.decreases-loop-class
decreases-loop-class g l = length l.image - l.at
