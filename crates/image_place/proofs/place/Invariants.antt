use Prim.Native.Nat.{◌-◌}
use lib.ListN.{length}
use Rattle.image_place.proofs.Placing.{Turn}
use Rattle.image_place.proofs.place.Given as goal

abbrev pub invariant-loop-at : goal.invariant-loop-at
invariant-loop-at l = Turn l.initial.p l.image l.p l.next l.reader l.at

abbrev pub decreases-loop-at : goal.decreases-loop-at
decreases-loop-at l = length l.image - l.at
