use native.Mathlib.Omega.{arith}
use mathlib.Core.Path.{◌∙◌}
use Rattle.tcc_rules.specs.Rules.{consonant}
use Rattle.tcc_rules.proofs.Classes.{seen}
use Rattle.tcc_rules.proofs.StartsE.{e_short_yes, e_short_no}
use Rattle.tcc_match.proofs.after_e.from_e_short.Goals as goal

pub overflow_add-p : goal.overflow_add-p
overflow_add-p c = omega (arith, c.requires.0)

pub overflow_add-p-then-is_consonant : goal.overflow_add-p-then-is_consonant
overflow_add-p-then-is_consonant c = omega (arith, c.requires.0)

pub returns-then-is_consonant : goal.returns-then-is_consonant
returns-then-is_consonant c =
    c.group_k.ensures ∙ e_short_yes c.args.text.now c.args.p c.requires
    (seen consonant c.at.ensures c.is_consonant.ensures c.if-is_consonant.true)

pub overflow_add-result : goal.overflow_add-result
overflow_add-result c = omega (arith, c.requires.0)

pub returns : goal.returns
returns c =
    e_short_no c.args.text.now c.args.p c.requires
    (seen consonant c.at.ensures c.is_consonant.ensures c.if-is_consonant.false)
