use Rattle.newmm_bfs.proofs.Tracing.{Putting}
use Rattle.newmm_bfs.proofs.put_way.Given as goal

abbrev pub invariant-loop-i : goal.invariant-loop-i
invariant-loop-i l = Putting l.initial.row l.row l.m l.v l.count l.k l.i l.x

abbrev pub decreases-loop-i : goal.decreases-loop-i
decreases-loop-i l = l.i
