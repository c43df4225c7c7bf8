use Rattle.newmm_word_step.specs.inner.Walks.{given_by}
use Rattle.newmm_claim.proofs.Judging.{Judging}
use Rattle.newmm_claim.proofs.judge.Given as goal

abbrev pub invariant-loop-k : goal.invariant-loop-k
invariant-loop-k l = Judging (given_by l.text l.pool) l.claimed l.b l.k
