use Prim.Native.Nat.{◌-◌}
use Rattle.trie_leaf.proofs.Halves.{Unshifting}
use Rattle.trie_leaf.proofs.moves.unshift.Given as goal

abbrev pub invariant-loop-k : goal.invariant-loop-k
invariant-loop-k l = Unshifting l.initial.p l.p l.low l.high l.k
