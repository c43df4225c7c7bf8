use lib.ListN.{length}
use Rattle.newmm_reasons.proofs.Pairs.{Putting}
use Rattle.newmm_reasons.proofs.put_pairs.Given as goal

abbrev pub invariant-loop-i : goal.invariant-loop-i
invariant-loop-i l = Putting l.cells l.initial.out l.out l.i
