use Rattle.newmm_many_answers.proofs.TextEnds.{Right}
use Rattle.newmm_many_answers.proofs.first_wrong.Given as goal

abbrev pub invariant-loop-i : goal.invariant-loop-i
invariant-loop-i l = Right l.size l.ends l.from l.i
