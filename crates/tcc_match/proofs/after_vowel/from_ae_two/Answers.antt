use native.Mathlib.Omega.{arith}
use mathlib.Core.Path.{sym, ◌∙◌}
use Rattle.tcc_rules.specs.Rules.{consonant}
use Rattle.tcc_rules.proofs.Classes.{seen, unlike}
use Rattle.tcc_rules.proofs.StartsVowel.{ae_two_mark, ae_two_short, ae_two_short_no, ae_two_none, ae_three, ae_three_no}
use Rattle.tcc_match.proofs.after_vowel.from_ae_two.Goals as goal

pub overflow_add-p : goal.overflow_add-p
overflow_add-p c = omega (arith, c.requires.0)

pub overflow_add-result : goal.overflow_add-result
overflow_add-result c = omega (arith, c.requires.0)

pub returns-then-x-eq-THANTHAKHAT : goal.returns-then-x-eq-THANTHAKHAT
returns-then-x-eq-THANTHAKHAT c = ae_two_mark c.args.text.now c.args.p c.requires (sym c.at-x.ensures ∙ c.if-x-eq-THANTHAKHAT.true)

pub overflow_add-p-2 : goal.overflow_add-p-2
overflow_add-p-2 c = omega (arith, c.requires.0)

pub overflow_add-result-then-is_consonant : goal.overflow_add-result-then-is_consonant
overflow_add-result-then-is_consonant c = omega (arith, c.requires.0)

pub returns-then-is_consonant : goal.returns-then-is_consonant
returns-then-is_consonant c =
    ae_two_short c.args.text.now c.args.p c.requires (sym c.at-x.ensures ∙ c.if-x-eq-MAITAIKHU.true)
    (seen consonant c.at-y.ensures c.is_consonant.ensures c.if-is_consonant.true)

pub overflow_add-result-then-x-eq-MAITAIKHU : goal.overflow_add-result-then-x-eq-MAITAIKHU
overflow_add-result-then-x-eq-MAITAIKHU c = omega (arith, c.requires.0)

pub returns-then-x-eq-MAITAIKHU : goal.returns-then-x-eq-MAITAIKHU
returns-then-x-eq-MAITAIKHU c =
    ae_two_short_no c.args.text.now c.args.p c.requires (sym c.at-x.ensures ∙ c.if-x-eq-MAITAIKHU.true)
    (seen consonant c.at-y.ensures c.is_consonant.ensures c.if-is_consonant.false)

pub overflow_add-result-then-not-is_consonant : goal.overflow_add-result-then-not-is_consonant
overflow_add-result-then-not-is_consonant c = omega (arith, c.requires.0)

pub returns-then-not-is_consonant : goal.returns-then-not-is_consonant
returns-then-not-is_consonant c =
    ae_two_none c.args.text.now c.args.p c.requires (
      (unlike 0xE4C c.at-x.ensures c.if-x-eq-THANTHAKHAT.false),
      (
        (unlike 0xE47 c.at-x.ensures c.if-x-eq-MAITAIKHU.false),
        ((seen consonant c.at-x.ensures c.is_consonant-2.ensures c.if-not-is_consonant.true), tt),
      ),
    )

pub overflow_add-result-then-y-eq-THANTHAKHAT : goal.overflow_add-result-then-y-eq-THANTHAKHAT
overflow_add-result-then-y-eq-THANTHAKHAT c = omega (arith, c.requires.0)

pub returns-then-y-eq-THANTHAKHAT : goal.returns-then-y-eq-THANTHAKHAT
returns-then-y-eq-THANTHAKHAT c =
    ae_three c.args.text.now c.args.p c.requires
    (seen consonant c.at-x.ensures c.is_consonant-2.ensures c.if-not-is_consonant.false)
    (sym c.at-y.ensures ∙ c.if-y-eq-THANTHAKHAT.true)

pub overflow_add-result-2 : goal.overflow_add-result-2
overflow_add-result-2 c = omega (arith, c.requires.0)

pub returns : goal.returns
returns c =
    ae_three_no c.args.text.now c.args.p c.requires
    (seen consonant c.at-x.ensures c.is_consonant-2.ensures c.if-not-is_consonant.false)
    (unlike 0xE4C c.at-y.ensures c.if-y-eq-THANTHAKHAT.false)
