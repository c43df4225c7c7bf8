use Rattle.trie_search.proofs.Walking.{Inv}
use Rattle.trie_search.proofs.search.mark_of.Given as goal

abbrev pub invariant-loop-x : goal.invariant-loop-x
invariant-loop-x l = Inv l.p l.w l.i l.x-index
