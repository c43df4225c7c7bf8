use Rattle.trie_child.proofs.Nearing.{Nearing}
use Rattle.trie_child.proofs.seek.Given as goal

abbrev pub invariant-loop-k : goal.invariant-loop-k
invariant-loop-k l = Nearing l.p l.x l.first l.count l.k

abbrev pub decreases-loop-k : goal.decreases-loop-k
decreases-loop-k l = l.k
