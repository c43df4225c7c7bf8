use native.Mathlib.Omega.{arith}
use mathlib.Core.Path.{refl, sym, ◌∙◌}
use Rattle.tcc_rules.specs.Rules.{consonant, tone}
use Rattle.tcc_rules.proofs.Classes.{seen, unlike}
use Rattle.tcc_rules.proofs.StartsE.{e_alone, e_tone, e_aa, e_a, e_none}
use Rattle.tcc_match.proofs.after_e.from_e.Goals as goal

pub overflow_add-p : goal.overflow_add-p
overflow_add-p c = omega (arith, c.requires.0)

pub overflow_add-result : goal.overflow_add-result
overflow_add-result c = omega (arith, c.requires.0)

pub returns-then-not-is_consonant : goal.returns-then-not-is_consonant
returns-then-not-is_consonant c =
    e_alone c.args.text.now c.args.p c.requires
    (seen consonant c.at.ensures c.is_consonant.ensures c.if-not-is_consonant.true)

pub overflow_add-p-2 : goal.overflow_add-p-2
overflow_add-p-2 c = omega (arith, c.requires.0)

pub from_e_two-requires : goal.from_e_two-requires
from_e_two-requires c = (
  c.requires.0,
  (
    c.requires.1.0,
    (
      ((seen consonant c.at.ensures c.is_consonant.ensures c.if-not-is_consonant.false), refl),
      (((seen consonant c.at-x.ensures c.is_consonant-2.ensures c.if-is_consonant.true), refl), tt),
    ),
  ),
)

pub returns-then-is_consonant : goal.returns-then-is_consonant
returns-then-is_consonant c = c.from_e_two.ensures

pub overflow_add-p-then-is_tone : goal.overflow_add-p-then-is_tone
overflow_add-p-then-is_tone c = omega (arith, c.requires.0)

pub returns-then-is_tone : goal.returns-then-is_tone
returns-then-is_tone c =
    c.group_k.ensures ∙ e_tone c.args.text.now c.args.p c.requires
    (seen consonant c.at.ensures c.is_consonant.ensures c.if-not-is_consonant.false)
    (seen tone c.at-x.ensures c.is_tone.ensures c.if-is_tone.true) c.skip.ensures
    c.skip-then-is_tone.ensures

pub from_e_i-requires : goal.from_e_i-requires
from_e_i-requires c = (
  c.requires.0,
  (
    c.requires.1.0,
    (
      ((seen consonant c.at.ensures c.is_consonant.ensures c.if-not-is_consonant.false), refl),
      ((sym c.at-x.ensures ∙ c.if-x-eq-SARA_I.true), tt),
    ),
  ),
)

pub returns-then-x-eq-SARA_I : goal.returns-then-x-eq-SARA_I
returns-then-x-eq-SARA_I c = c.from_e_i.ensures

pub from_e_ii-requires : goal.from_e_ii-requires
from_e_ii-requires c = (
  c.requires.0,
  (
    c.requires.1.0,
    (
      ((seen consonant c.at.ensures c.is_consonant.ensures c.if-not-is_consonant.false), refl),
      ((sym c.at-x.ensures ∙ c.if-x-eq-SARA_II.true), tt),
    ),
  ),
)

pub returns-then-x-eq-SARA_II : goal.returns-then-x-eq-SARA_II
returns-then-x-eq-SARA_II c = c.from_e_ii.ensures

pub from_e_uee-requires : goal.from_e_uee-requires
from_e_uee-requires c = (
  c.requires.0,
  (
    c.requires.1.0,
    (
      ((seen consonant c.at.ensures c.is_consonant.ensures c.if-not-is_consonant.false), refl),
      ((sym c.at-x.ensures ∙ c.if-x-eq-SARA_UEE.true), tt),
    ),
  ),
)

pub returns-then-x-eq-SARA_UEE : goal.returns-then-x-eq-SARA_UEE
returns-then-x-eq-SARA_UEE c = c.from_e_uee.ensures

pub overflow_add-p-then-x-eq-SARA_AA : goal.overflow_add-p-then-x-eq-SARA_AA
overflow_add-p-then-x-eq-SARA_AA c = omega (arith, c.requires.0)

pub returns-then-x-eq-SARA_AA : goal.returns-then-x-eq-SARA_AA
returns-then-x-eq-SARA_AA c =
    c.group_k-then-x-eq-SARA_AA.ensures ∙ e_aa c.args.text.now c.args.p c.requires
    (seen consonant c.at.ensures c.is_consonant.ensures c.if-not-is_consonant.false)
    (sym c.at-x.ensures ∙ c.if-x-eq-SARA_AA.true) c.skip-then-x-eq-SARA_AA.ensures

pub from_e_short-requires : goal.from_e_short-requires
from_e_short-requires c = (
  c.requires.0,
  (
    c.requires.1.0,
    (
      ((seen consonant c.at.ensures c.is_consonant.ensures c.if-not-is_consonant.false), refl),
      ((sym c.at-x.ensures ∙ c.if-x-eq-MAITAIKHU.true), tt),
    ),
  ),
)

pub returns-then-x-eq-MAITAIKHU : goal.returns-then-x-eq-MAITAIKHU
returns-then-x-eq-MAITAIKHU c = c.from_e_short.ensures

pub overflow_add-p-then-x-eq-SARA_A : goal.overflow_add-p-then-x-eq-SARA_A
overflow_add-p-then-x-eq-SARA_A c = omega (arith, c.requires.0)

pub returns-then-x-eq-SARA_A : goal.returns-then-x-eq-SARA_A
returns-then-x-eq-SARA_A c =
    c.group_k-then-x-eq-SARA_A.ensures ∙ e_a c.args.text.now c.args.p c.requires
    (seen consonant c.at.ensures c.is_consonant.ensures c.if-not-is_consonant.false)
    (sym c.at-x.ensures ∙ c.if-x-eq-SARA_A.true)

pub overflow_add-result-2 : goal.overflow_add-result-2
overflow_add-result-2 c = omega (arith, c.requires.0)

pub returns : goal.returns
returns c =
    e_none c.args.text.now c.args.p c.requires
    (seen consonant c.at.ensures c.is_consonant.ensures c.if-not-is_consonant.false) (
      (seen consonant c.at-x.ensures c.is_consonant-2.ensures c.if-is_consonant.false),
      (
        (seen tone c.at-x.ensures c.is_tone.ensures c.if-is_tone.false),
        (
          (unlike 0xE34 c.at-x.ensures c.if-x-eq-SARA_I.false),
          (
            (unlike 0xE35 c.at-x.ensures c.if-x-eq-SARA_II.false),
            (
              (unlike 0xE37 c.at-x.ensures c.if-x-eq-SARA_UEE.false),
              (
                (unlike 0xE32 c.at-x.ensures c.if-x-eq-SARA_AA.false),
                (
                  (unlike 0xE47 c.at-x.ensures c.if-x-eq-MAITAIKHU.false),
                  ((unlike 0xE30 c.at-x.ensures c.if-x-eq-SARA_A.false), tt),
                ),
              ),
            ),
          ),
        ),
      ),
    )
