use Rattle.trie_leaf.proofs.Halves.{Shifting}
use Rattle.trie_leaf.proofs.moves.shift.Given as goal

abbrev pub invariant-loop-k : goal.invariant-loop-k
invariant-loop-k l = Shifting l.initial.p l.p l.low l.high l.k
