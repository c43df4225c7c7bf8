use Rattle.newmm_tell.proofs.Telling.{Telling}
use Rattle.newmm_tell.proofs.tell.Given as goal

abbrev pub invariant-loop-i : goal.invariant-loop-i
invariant-loop-i l = Telling l.part l.pool l.initial.row l.row l.k l.start l.b l.i
