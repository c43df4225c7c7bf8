use Prim.Native.Nat.{◌-◌}
use lib.ListN.{length}
use Rattle.tcc_tables.proofs.Putting.{Putting}
use Rattle.tcc_tables.proofs.put_clusters.Given as goal

abbrev pub invariant-loop-p : goal.invariant-loop-p
invariant-loop-p l = Putting l.text l.initial.ends l.initial.winners l.ends l.winners l.p l.n

abbrev pub decreases-loop-p : goal.decreases-loop-p
decreases-loop-p l = length l.text - l.p
