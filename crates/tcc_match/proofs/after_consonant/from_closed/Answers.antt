use Prim.Native.Nat.{◌+◌}
use native.Mathlib.Omega.{arith}
use mathlib.Core.Path.{◌∙◌}
use Rattle.tcc_rules.specs.Rules.{consonant, tone}
use Rattle.tcc_rules.proofs.Classes.{seen}
use Rattle.tcc_rules.proofs.Skips.{skip_near}
use Rattle.tcc_rules.proofs.StartsConsonant.{closed_yes, closed_no}
use Rattle.tcc_match.proofs.after_consonant.from_closed.Goals as goal

pub overflow_add-p : goal.overflow_add-p
overflow_add-p c = omega (arith, c.requires.0)

pub overflow_add-q : goal.overflow_add-q
overflow_add-q c = omega (arith, c.requires.0, c.skip-q.ensures, skip_near tone c.args.text.now (c.args.p + 2))

pub returns-then-is_consonant : goal.returns-then-is_consonant
returns-then-is_consonant c =
    c.group_k.ensures ∙ closed_yes c.args.text.now c.args.p c.requires _ c.skip-q.ensures
    (seen consonant c.at.ensures c.is_consonant.ensures c.if-is_consonant.true)
    c.skip.ensures

pub returns : goal.returns
returns c =
    closed_no c.args.text.now c.args.p c.requires _ c.skip-q.ensures
    (seen consonant c.at.ensures c.is_consonant.ensures c.if-is_consonant.false)
