use Rattle.trie_leaf.proofs.Halves.{shift_turn, shift_done}
use Rattle.trie_leaf.proofs.moves.shift.Goals as goal

pub loop-k-preserved : goal.loop-k-preserved
loop-k-preserved c = shift_turn _ _ _ _ _ _ c.loop-k.invariant c.loop-k-test.true c.copy_half.auto.p c.copy_half.ensures

pub returns : goal.returns
returns c = shift_done _ _ _ _ _ c.loop-k.invariant c.loop-k-test.false
