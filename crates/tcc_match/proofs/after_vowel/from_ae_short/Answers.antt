use native.Mathlib.Omega.{arith}
use Rattle.tcc_rules.specs.Rules.{consonant}
use Rattle.tcc_rules.proofs.Classes.{seen}
use Rattle.tcc_rules.proofs.StartsVowel.{ae_short_yes, ae_short_no}
use Rattle.tcc_match.proofs.after_vowel.from_ae_short.Goals as goal

pub overflow_add-p : goal.overflow_add-p
overflow_add-p c = omega (arith, c.requires.0)

pub overflow_add-result : goal.overflow_add-result
overflow_add-result c = omega (arith, c.requires.0)

pub returns-then-is_consonant : goal.returns-then-is_consonant
returns-then-is_consonant c =
    ae_short_yes c.args.text.now c.args.p c.requires
    (seen consonant c.at.ensures c.is_consonant.ensures c.if-is_consonant.true)

pub overflow_add-result-2 : goal.overflow_add-result-2
overflow_add-result-2 c = omega (arith, c.requires.0)

pub returns : goal.returns
returns c =
    ae_short_no c.args.text.now c.args.p c.requires
    (seen consonant c.at.ensures c.is_consonant.ensures c.if-is_consonant.false)
