use Rattle.trie_change.proofs.Adding.{Inv}
use Rattle.trie_change.proofs.add.add_word.Given as goal

abbrev pub invariant-loop-x : goal.invariant-loop-x
invariant-loop-x l = Inv l.initial.p l.w l.p l.i l.x-index
