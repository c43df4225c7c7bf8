use native.Mathlib.Omega.{arith}
use mathlib.Core.Path.{refl, sym, ◌∙◌}
use Rattle.tcc_rules.specs.Rules.{consonant}
use Rattle.tcc_rules.proofs.Classes.{seen, unlike}
use Rattle.tcc_rules.proofs.StartsVowel.{ae_alone, ae_open}
use Rattle.tcc_match.proofs.after_vowel.from_ae.Goals as goal

pub overflow_add-p : goal.overflow_add-p
overflow_add-p c = omega (arith, c.requires.0)

pub overflow_add-result : goal.overflow_add-result
overflow_add-result c = omega (arith, c.requires.0)

pub returns-then-not-is_consonant : goal.returns-then-not-is_consonant
returns-then-not-is_consonant c =
    ae_alone c.args.text.now c.args.p c.requires
    (seen consonant c.at.ensures c.is_consonant.ensures c.if-not-is_consonant.true)

pub overflow_add-p-2 : goal.overflow_add-p-2
overflow_add-p-2 c = omega (arith, c.requires.0)

pub from_ae_two-requires : goal.from_ae_two-requires
from_ae_two-requires c = (
  c.requires.0,
  (
    c.requires.1.0,
    (
      ((seen consonant c.at.ensures c.is_consonant.ensures c.if-not-is_consonant.false), refl),
      (((seen consonant c.at-x.ensures c.is_consonant-2.ensures c.if-is_consonant.true), refl), tt),
    ),
  ),
)

pub returns-then-is_consonant : goal.returns-then-is_consonant
returns-then-is_consonant c = c.from_ae_two.ensures

pub from_ae_short-requires : goal.from_ae_short-requires
from_ae_short-requires c = (
  c.requires.0,
  (
    c.requires.1.0,
    (
      ((seen consonant c.at.ensures c.is_consonant.ensures c.if-not-is_consonant.false), refl),
      ((sym c.at-x.ensures ∙ c.if-x-eq-MAITAIKHU.true), tt),
    ),
  ),
)

pub returns-then-x-eq-MAITAIKHU : goal.returns-then-x-eq-MAITAIKHU
returns-then-x-eq-MAITAIKHU c = c.from_ae_short.ensures

pub overflow_add-p-3 : goal.overflow_add-p-3
overflow_add-p-3 c = omega (arith, c.requires.0)

pub returns : goal.returns
returns c =
    ae_open c.args.text.now c.args.p c.requires
    (seen consonant c.at.ensures c.is_consonant.ensures c.if-not-is_consonant.false) (
      (seen consonant c.at-x.ensures c.is_consonant-2.ensures c.if-is_consonant.false),
      ((unlike 0xE47 c.at-x.ensures c.if-x-eq-MAITAIKHU.false), tt),
    ) c.skip.ensures c.skip-2.ensures
