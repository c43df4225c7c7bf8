use mathlib.Core.Path.{sym, ◌∙◌}
use native.Mathlib.Omega.{arith}
use Rattle.trie_node.proofs.Decide.{denied}
use Rattle.trie_well_formed.proofs.Whole.{starts_more, starts_not}
use Rattle.trie_well_formed.proofs.starts_ok.Goals as goal

pub returns-then-is_trimmed : goal.returns-then-is_trimmed
returns-then-is_trimmed c =
    denied (starts_not c.args.p.now c.args.k c.loop-i.i
    (sym c.is_trimmed.ensures ∙ c.if-is_trimmed.true) c.loop-i.invariant.0 (omega (arith, c.loop-i-test.true)))

pub loop-i-preserved : goal.loop-i-preserved
loop-i-preserved c = (
  omega arith,
  starts_more c.args.p.now c.loop-i.i c.loop-i.invariant.1
      (sym c.is_trimmed.ensures ∙ c.if-is_trimmed.false),
)
