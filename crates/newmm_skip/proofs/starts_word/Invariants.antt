use Rattle.newmm_skip.proofs.Skipping.{Trying}
use Rattle.newmm_skip.proofs.starts_word.Given as goal

abbrev pub invariant-loop-e : goal.invariant-loop-e
invariant-loop-e l = Trying l.text l.pool l.p l.limit l.e l.node
