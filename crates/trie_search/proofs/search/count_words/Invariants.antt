use Rattle.trie_search.proofs.Walking.{Tallied}
use Rattle.trie_search.proofs.search.count_words.Given as goal

abbrev pub invariant-loop-i : goal.invariant-loop-i
invariant-loop-i l = Tallied l.p l.n l.words l.i
