use Rattle.newmm_bfs.specs.inner.Strips.{before}
use Rattle.newmm_bfs.proofs.Tracing.{Counting}
use Rattle.newmm_bfs.proofs.way_length.Given as goal

abbrev pub invariant-loop-x : goal.invariant-loop-x
invariant-loop-x l = Counting (before l.row l.m) l.start l.v l.k l.x

abbrev pub decreases-loop-x : goal.decreases-loop-x
decreases-loop-x l = l.x
