use native.Mathlib.Omega.{arith}
use Rattle.tcc_rules.specs.Rules.{consonant}
use Rattle.tcc_rules.proofs.Classes.{seen}
use Rattle.tcc_rules.proofs.StartsVowel.{ai_alone, ai_open}
use Rattle.tcc_match.proofs.after_vowel.from_ai.Goals as goal

pub overflow_add-p : goal.overflow_add-p
overflow_add-p c = omega (arith, c.requires.0)

pub overflow_add-result : goal.overflow_add-result
overflow_add-result c = omega (arith, c.requires.0)

pub returns-then-not-is_consonant : goal.returns-then-not-is_consonant
returns-then-not-is_consonant c =
    ai_alone c.args.text.now c.args.p c.requires
    (seen consonant c.at.ensures c.is_consonant.ensures c.if-not-is_consonant.true)

pub overflow_add-p-2 : goal.overflow_add-p-2
overflow_add-p-2 c = omega (arith, c.requires.0)

pub returns : goal.returns
returns c =
    ai_open c.args.text.now c.args.p c.requires
    (seen consonant c.at.ensures c.is_consonant.ensures c.if-not-is_consonant.false)
    c.skip.ensures
