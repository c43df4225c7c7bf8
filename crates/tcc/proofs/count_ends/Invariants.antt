use Prim.Native.Nat.{◌-◌}
use lib.ListN.{length}
use Rattle.tcc.proofs.Passes.{Counted}
use Rattle.tcc.proofs.count_ends.Given as goal

abbrev pub invariant-loop-p : goal.invariant-loop-p
invariant-loop-p l = Counted l.text l.p l.n

abbrev pub decreases-loop-p : goal.decreases-loop-p
decreases-loop-p l = length l.text - l.p
