use Rattle.newmm_edges.proofs.Looping.{Looping}
use Rattle.newmm_edges.proofs.record_words.Given as goal

abbrev pub invariant-loop-e : goal.invariant-loop-e
invariant-loop-e l = Looping l.text l.pool l.initial.row l.row l.m l.b l.limit l.first l.initial.q l.q l.e l.node
