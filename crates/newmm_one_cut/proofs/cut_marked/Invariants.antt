use Prim.Native.Nat.{◌-◌}
use Rattle.newmm_one_cut.proofs.Rounds.{Round}
use Rattle.newmm_one_cut.proofs.cut_marked.Given as goal

abbrev pub invariant-loop-b : goal.invariant-loop-b
invariant-loop-b l = Round l.text l.pool l.row l.m l.b l.committed l.ends l.p

abbrev pub decreases-loop-b : goal.decreases-loop-b
decreases-loop-b l = l.n - l.b
