use Rattle.newmm_words_at.proofs.Finding.{Finding}
use Rattle.newmm_words_at.proofs.words_at.Given as goal

abbrev pub invariant-loop-p : goal.invariant-loop-p
invariant-loop-p l = Finding l.text l.pool l.b l.limit l.e l.p l.node l.found
