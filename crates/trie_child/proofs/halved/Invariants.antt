use Prim.Native.Nat.{◌-◌}
use Rattle.trie_child.specs.inner.Search.{Between}
use Rattle.trie_child.proofs.halved.Given as goal

abbrev pub invariant-loop-low : goal.invariant-loop-low
invariant-loop-low l = Between l.p l.b l.x l.low l.high

abbrev pub decreases-loop-low : goal.decreases-loop-low
decreases-loop-low l = l.high - l.low
