use Prim.Native.Nat.{◌-◌}
use lib.ListN.{length}
use Rattle.utf8.proofs.Runs.{Filled}
use Rattle.utf8.proofs.Places.{Placed}
use Rattle.utf8.proofs.fill.Given as goal

abbrev pub invariant-loop-at : goal.invariant-loop-at
invariant-loop-at l = Filled l.s l.initial.out l.out l.at l.n × Placed l.s l.initial.positions l.positions l.at l.n

abbrev pub decreases-loop-at : goal.decreases-loop-at
decreases-loop-at l = length l.s - l.at
