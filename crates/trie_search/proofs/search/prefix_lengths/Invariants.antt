use Rattle.trie_search.proofs.Prefixes.{Written}
use Rattle.trie_search.proofs.search.prefix_lengths.Given as goal

abbrev pub invariant-loop-i : goal.invariant-loop-i
invariant-loop-i l = Written l.p l.text l.initial.out l.out l.b l.n l.i
