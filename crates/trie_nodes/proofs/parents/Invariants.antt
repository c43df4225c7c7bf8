use Prim.Native.Nat.{◌-◌}
use Rattle.trie_nodes.specs.inner.Walking.{At}
use Rattle.trie_nodes.proofs.parents.Given as goal

abbrev pub invariant-loop-w : goal.invariant-loop-w
invariant-loop-w g l = At g.row.CELLS l.p l.n l.w

abbrev pub decreases-loop-w : goal.decreases-loop-w
decreases-loop-w g l = l.n - l.w.i
