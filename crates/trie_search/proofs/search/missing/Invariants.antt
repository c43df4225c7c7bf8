use Rattle.trie_search.proofs.Walking.{Counts}
use Rattle.trie_search.proofs.search.missing.Given as goal

abbrev pub invariant-loop-t : goal.invariant-loop-t
invariant-loop-t l = Counts l.p l.w l.i l.t
