use lib.ListN.{length}
use Rattle.newmm_segment.proofs.Longest.{Meeting}
use Rattle.newmm_segment.proofs.longest_start.Given as goal

abbrev pub invariant-loop-end : goal.invariant-loop-end
invariant-loop-end l = Meeting l.initial.ends l.ends (length l.initial.ends) l.start l.most l.from l.end-index
