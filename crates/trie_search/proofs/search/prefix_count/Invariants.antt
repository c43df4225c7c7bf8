use Rattle.trie_search.proofs.Prefixes.{Counted}
use Rattle.trie_search.proofs.search.prefix_count.Given as goal

abbrev pub invariant-loop-x : goal.invariant-loop-x
invariant-loop-x l = Counted l.p l.text l.b l.n l.x-index
