use Rattle.trie_nodes.proofs.Ors.{none_of}
use Rattle.trie_nodes.proofs.none_aside.Goals as goal

pub returns : goal.returns
returns c = none_of _ _ _ _
