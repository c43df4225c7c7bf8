use Prim.Native.Nat.{◌-◌}
use lib.ListN.{length}
use Rattle.tcc.proofs.Marks.{Marked}
use Rattle.tcc.proofs.mark_ends.Given as goal

abbrev pub invariant-loop-p : goal.invariant-loop-p
invariant-loop-p l = Marked l.text l.initial.row l.row l.p

abbrev pub decreases-loop-p : goal.decreases-loop-p
decreases-loop-p l = length l.text - l.p
