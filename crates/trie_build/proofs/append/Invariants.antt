use Rattle.trie_build.proofs.Appended.{Going}
use Rattle.trie_build.proofs.append.Given as goal

abbrev pub invariant-loop-d : goal.invariant-loop-d
invariant-loop-d l = Going l.initial.p l.initial.next l.word l.l l.mark l.p l.next l.d
