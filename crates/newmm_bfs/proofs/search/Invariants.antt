use Prim.Native.Nat.{◌-◌, ◌<◌}
use Rattle.newmm_bfs.proofs.Searching.{Agree, Searching, Reading}
use Rattle.newmm_bfs.proofs.search.Given as goal

abbrev pub invariant-loop-j-2 : goal.invariant-loop-j-2
invariant-loop-j-2 l = Reading l.row l.m l.start l.goal l.head l.tail l.v l.first l.count l.j × Agree l.m l.initial.row l.row

abbrev pub invariant-loop-j : goal.invariant-loop-j
invariant-loop-j l = Searching l.row l.m l.start l.goal l.head l.tail × Agree l.m l.initial.row l.row × (l.head < l.tail)

abbrev pub decreases-loop-j : goal.decreases-loop-j
decreases-loop-j l = l.goal - l.start - l.head
