use mathlib.Core.Path.{sym, ◌∙◌}
use Rattle.trie_pool.proofs.Shape.{count_is}
use Rattle.trie_nodes.proofs.Ors.{beside_more}
use Rattle.trie_nodes.proofs.Walks.{wrong_node, wrong_leaf}
use Rattle.trie_nodes.proofs.Ends.{walking_leaf, leaves_wrong}
use Rattle.trie_nodes.proofs.leaves.Goals as goal

pub returns-then-not-node_ok : goal.returns-then-not-node_ok
returns-then-not-node_ok g c =
    leaves_wrong c.loop-w.invariant.0 c.loop-w.invariant.1
    (wrong_node c.loop-w.invariant.0.0 c.loop-w-test.true
    (λ h. c.node_ok.ensures.no' c.if-not-node_ok.true
    (record { first = h.first ∙ c.loop-w.invariant.1; inner = h.inner })))

pub returns-then-p-w-ne0 : goal.returns-then-p-w-ne0
returns-then-p-w-ne0 g c =
    leaves_wrong c.loop-w.invariant.0 c.loop-w.invariant.1
    (wrong_leaf c.loop-w.invariant.0.0 c.loop-w.invariant.1 c.loop-w-test.true
    (λ e. c.if-p-w-ne0.true (sym (count_is c.args.p.now _) ∙ e)))

pub loop-w-preserved-then-this-ne-NODE : goal.loop-w-preserved-then-this-ne-NODE
loop-w-preserved-then-this-ne-NODE g c =
    let walking = walking_leaf c.args.p.now _ _ _ _ _ _ c.loop-w.invariant.0.0 c.loop-w.invariant.1 c.loop-w-test.true
    (c.node_ok.ensures.yes' c.if-not-node_ok.false) c.if-p-w-ne0.false c.fall_at.ensures.value in
    ((walking, λ all. absurd (c.if-this-ne-NODE.true all)), c.loop-w.invariant.1)

pub loop-w-preserved : goal.loop-w-preserved
loop-w-preserved g c =
    let walking = walking_leaf c.args.p.now _ _ _ _ _ _ c.loop-w.invariant.0.0 c.loop-w.invariant.1 c.loop-w-test.true
    (c.node_ok.ensures.yes' c.if-not-node_ok.false) c.if-p-w-ne0.false c.fall_at.ensures.value in
    ((walking, λ all. beside_more c.args.p.now _ _ _ _ _ (c.loop-w.invariant.0.1 all)), c.loop-w.invariant.1)
