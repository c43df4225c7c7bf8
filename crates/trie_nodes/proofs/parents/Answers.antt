use mathlib.Core.Path.{refl}
use native.Mathlib.Omega.{arith}
use Rattle.trie_nodes.proofs.Ors.{beside_none, beside_more}
use Rattle.trie_nodes.proofs.Walks.{wrong_ahead, wrong_node}
use Rattle.trie_nodes.proofs.Ends.{walking_first, walking_next, parents_wrong, parents_right}
use Rattle.trie_nodes.proofs.parents.Goals as goal

pub loop-w-init : goal.loop-w-init
loop-w-init g c = (
  walking_first c.args.p.now _ _ _ refl c.requires.small.0 c.root_falls.ensures.upper_bound c.root_falls.ensures.value,
  λ all. beside_none _ (c.requires.root all),
)

pub returns-then-w : goal.returns-then-w
returns-then-w g c = parents_wrong c.loop-w-test.true (wrong_ahead c.loop-w.invariant.0 c.loop-w-test.true c.if-w.true)

pub returns-then-not-node_ok : goal.returns-then-not-node_ok
returns-then-not-node_ok g c =
    parents_wrong c.loop-w-test.true
    (wrong_node c.loop-w.invariant.0 (omega (arith, c.if-w.false, c.loop-w-test.true))
    (c.node_ok.ensures.no' c.if-not-node_ok.true))

pub loop-w-preserved-then-this-ne-NODE : goal.loop-w-preserved-then-this-ne-NODE
loop-w-preserved-then-this-ne-NODE g c = (
  walking_next c.args.p.now _ _ _ _ _ _ _ _ c.loop-w.invariant.0 c.if-w.false c.loop-w-test.true
      (c.node_ok.ensures.yes' c.if-not-node_ok.false) refl c.fall_at.ensures.value
      c.start_falls.ensures.value c.start_falls.ensures.upper_bound,
  λ all. absurd (c.if-this-ne-NODE.true all),
)

pub loop-w-preserved : goal.loop-w-preserved
loop-w-preserved g c = (
  walking_next c.args.p.now _ _ _ _ _ _ _ _ c.loop-w.invariant.0 c.if-w.false c.loop-w-test.true
      (c.node_ok.ensures.yes' c.if-not-node_ok.false) refl c.fall_at.ensures.value
      c.start_falls.ensures.value c.start_falls.ensures.upper_bound,
  λ all. beside_more c.args.p.now _ _ _ _ _ (c.loop-w.invariant.1 all),
)

pub returns : goal.returns
returns g c = parents_right c.loop-w.invariant.0 c.loop-w.invariant c.loop-w-test.false
