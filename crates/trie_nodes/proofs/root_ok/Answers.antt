use Rattle.trie_nodes.proofs.Ors.{root_both}
use Rattle.trie_nodes.proofs.root_ok.Goals as goal

pub returns : goal.returns
returns g c = root_both _ _ c.if-this-ne-NODE.false c.if-p-ne1.false
