use Rattle.newmm_one_cut.proofs.Small.{Seeking}
use Rattle.newmm_one_cut.proofs.next_candidate.Given as goal

abbrev pub invariant-loop-c : goal.invariant-loop-c
invariant-loop-c l = Seeking l.row l.m l.b l.c
