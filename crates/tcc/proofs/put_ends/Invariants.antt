use Prim.Native.Nat.{◌-◌}
use lib.ListN.{length}
use Rattle.tcc.proofs.Passes.{Written}
use Rattle.tcc.proofs.put_ends.Given as goal

abbrev pub invariant-loop-p : goal.invariant-loop-p
invariant-loop-p l = Written l.text l.initial.out l.out l.p l.n

abbrev pub decreases-loop-p : goal.decreases-loop-p
decreases-loop-p l = length l.text - l.p
