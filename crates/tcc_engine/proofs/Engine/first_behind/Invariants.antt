use Prim.Native.Nat.{◌-◌}
use Rattle.tcc_engine.proofs.Finding.{Trying}
use Rattle.tcc_engine.proofs.Engine.first_behind.Given as goal

abbrev pub invariant-loop-k : goal.invariant-loop-k
invariant-loop-k l = Trying l.text l.p l.past l.k

abbrev pub decreases-loop-k : goal.decreases-loop-k
decreases-loop-k l = 29 - l.k
