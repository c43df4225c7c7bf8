use Rattle.trie_node.proofs.Decide.{denied}
use Rattle.trie_nodes.proofs.Ends.{root_of, zeros_in, finish}
use Rattle.trie_nodes.proofs.nodes_ok.Goals.{then-this-eq-NODE+else-not-none_aside, else-this-eq-NODE}
use Rattle.trie_nodes.proofs.nodes_ok.Goals as goal

pub returns-then-not-root_ok : goal.returns-then-not-root_ok
returns-then-not-root_ok g c = denied (λ h. c.root_ok.ensures.no' c.if-not-root_ok.true (root_of h))

pub returns-then-u-n : goal.returns-then-u-n
returns-then-u-n g c = denied (λ h. c.parents-u.ensures.wrong c.if-u-n.true h.nodes)

pub returns-then-v-n : goal.returns-then-v-n
returns-then-v-n g c = denied (λ h. c.leaves-v.ensures.wrong c.if-v-n.true h.nodes)

pub returns : goal.returns
returns g c =
    finish c.leaves-v.ensures c.if-v-n.false c.requires.small.0 c.requires.small.1 c.requires.used
    (c.root_ok.ensures.yes' c.if-not-root_ok.false).0
    (λ all. elim c.if-this-eq-NODE.branch [
      | then-this-eq-NODE+else-not-none_aside w ↦ w.none_aside.ensures.yes' w.if-not-none_aside.false
      | else-this-eq-NODE w ↦ absurd (w.if-this-eq-NODE.false all)
    ])
