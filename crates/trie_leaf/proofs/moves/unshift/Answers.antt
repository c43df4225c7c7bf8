use Rattle.trie_leaf.proofs.Halves.{unshift_turn, unshift_done}
use Rattle.trie_leaf.proofs.moves.unshift.Goals as goal

pub loop-k-preserved : goal.loop-k-preserved
loop-k-preserved c = unshift_turn _ _ _ _ _ _ c.loop-k.invariant c.loop-k-test.true c.copy_half.auto.p c.copy_half.ensures

pub returns : goal.returns
returns c = unshift_done _ _ _ _ _ c.loop-k.invariant c.loop-k-test.false
