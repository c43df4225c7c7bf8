use Rattle.trie_half.proofs.Unused.{Unused}
use Rattle.trie_half.proofs.unused_ok.Given as goal

abbrev pub invariant-loop-i : goal.invariant-loop-i
invariant-loop-i l = Unused l.p l.n l.i l.first l.second l.third l.fourth
