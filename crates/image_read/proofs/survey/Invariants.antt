use Prim.Native.Nat.{◌-◌}
use lib.ListN.{length, take}
use Rattle.image_read.proofs.Surveying.{Surveying}
use Rattle.image_read.proofs.survey.Given as goal

abbrev pub invariant-loop-at : goal.invariant-loop-at
invariant-loop-at l = Surveying l.image l.levels l.words l.nodes (take l.reader.size l.reader.last) l.at

abbrev pub decreases-loop-at : goal.decreases-loop-at
decreases-loop-at l = length l.image - l.at
