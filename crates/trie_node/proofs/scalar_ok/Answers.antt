use Rattle.trie_node.proofs.Decide.{granted}
use Rattle.trie_node.proofs.Single.{legal_thai}
use Rattle.trie_node.proofs.scalar_ok.Goals as goal

pub returns-then-is_thai : goal.returns-then-is_thai
returns-then-is_thai c = rw c.if-is_thai.true (granted (legal_thai _ _ (c.is_thai.ensures.yes' c.if-is_thai.true)))
