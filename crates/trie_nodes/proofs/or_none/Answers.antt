use Rattle.trie_nodes.proofs.Cells.{none_is, some_is}
use Rattle.trie_nodes.proofs.or_none.Goals as goal

pub returns-then-k-eq0 : goal.returns-then-k-eq0
returns-then-k-eq0 c = none_is _ _ c.if-k-eq0.true

pub returns : goal.returns
returns c = some_is _ _ c.if-k-eq0.false
