use native.Mathlib.Omega.{arith}
use mathlib.Core.Path.{refl, sym, ◌∙◌}
use mathlib.Core.List.{◌++◌}
use Rattle.tcc_rules.specs.Rules.{is, up_to, consonant, tone, d_or_i}
use Rattle.tcc_rules.proofs.Classes.{seen, unlike}
use Rattle.tcc_rules.proofs.StartsConsonant.{c_two, c_tone, c_vowel, c_short, c_alone}
use Rattle.tcc_match.proofs.after_consonant.from_consonant.Goals as goal

pub overflow_add-p : goal.overflow_add-p
overflow_add-p c = omega (arith, c.requires.0)

pub from_ro-requires : goal.from_ro-requires
from_ro-requires c = (c.requires.0, (c.requires.1.0, ((sym c.at-x.ensures ∙ c.if-x-eq-RO_RUA.true), tt)))

pub returns-then-x-eq-RO_RUA : goal.returns-then-x-eq-RO_RUA
returns-then-x-eq-RO_RUA c = c.from_ro.ensures

pub overflow_add-p-then-is_consonant : goal.overflow_add-p-then-is_consonant
overflow_add-p-then-is_consonant c = omega (arith, c.requires.0)

pub returns-then-is_consonant : goal.returns-then-is_consonant
returns-then-is_consonant c =
    c.group_k.ensures ∙ c_two c.args.text.now c.args.p c.requires
    (seen consonant c.at-x.ensures c.is_consonant.ensures c.if-is_consonant.true)
    (unlike 0xE23 c.at-x.ensures c.if-x-eq-RO_RUA.false)

pub overflow_add-p-then-is_tone : goal.overflow_add-p-then-is_tone
overflow_add-p-then-is_tone c = omega (arith, c.requires.0)

pub returns-then-is_tone : goal.returns-then-is_tone
returns-then-is_tone c =
    c.group_k-then-is_tone.ensures ∙ c_tone c.args.text.now c.args.p c.requires
    (seen tone c.at-x.ensures c.is_tone.ensures c.if-is_tone.true) c.skip.ensures

pub from_closed-requires : goal.from_closed-requires
from_closed-requires c = (
  c.requires.0,
  (
    c.requires.1.0,
    (((seen (is 0xE31 ++ is 0xE37) c.at-x.ensures c.is_closed.ensures c.if-is_closed.true), refl), tt),
  ),
)

pub returns-then-is_closed : goal.returns-then-is_closed
returns-then-is_closed c = c.from_closed.ensures

pub from_d_or_i-requires : goal.from_d_or_i-requires
from_d_or_i-requires c = (
  c.requires.0,
  (
    c.requires.1.0,
    (((seen d_or_i c.at-x.ensures c.is_d_or_i.ensures c.if-is_d_or_i.true), refl), tt),
  ),
)

pub returns-then-is_d_or_i : goal.returns-then-is_d_or_i
returns-then-is_d_or_i c = c.from_d_or_i.ensures

pub overflow_add-p-then-is_vowel : goal.overflow_add-p-then-is_vowel
overflow_add-p-then-is_vowel c = omega (arith, c.requires.0)

pub returns-then-is_vowel : goal.returns-then-is_vowel
returns-then-is_vowel c =
    c.group_k-then-is_vowel.ensures ∙ c_vowel c.args.text.now c.args.p c.requires
    (seen (up_to 0xE30 0xE39) c.at-x.ensures c.is_vowel.ensures c.if-is_vowel.true) (
      (seen (is 0xE31 ++ is 0xE37) c.at-x.ensures c.is_closed.ensures c.if-is_closed.false),
      ((seen d_or_i c.at-x.ensures c.is_d_or_i.ensures c.if-is_d_or_i.false), tt),
    ) c.skip-then-is_vowel.ensures

pub overflow_add-result : goal.overflow_add-result
overflow_add-result c = omega (arith, c.requires.0)

pub returns-then-x-eq-MAITAIKHU : goal.returns-then-x-eq-MAITAIKHU
returns-then-x-eq-MAITAIKHU c = c_short c.args.text.now c.args.p c.requires (sym c.at-x.ensures ∙ c.if-x-eq-MAITAIKHU.true)

pub overflow_add-result-2 : goal.overflow_add-result-2
overflow_add-result-2 c = omega (arith, c.requires.0)

pub returns : goal.returns
returns c =
    c_alone c.args.text.now c.args.p c.requires (
      (unlike 0xE23 c.at-x.ensures c.if-x-eq-RO_RUA.false),
      (
        (seen consonant c.at-x.ensures c.is_consonant.ensures c.if-is_consonant.false),
        (
          (seen tone c.at-x.ensures c.is_tone.ensures c.if-is_tone.false),
          (
            (seen (is 0xE31 ++ is 0xE37) c.at-x.ensures c.is_closed.ensures c.if-is_closed.false),
            (
              (seen d_or_i c.at-x.ensures c.is_d_or_i.ensures c.if-is_d_or_i.false),
              (
                (seen (up_to 0xE30 0xE39) c.at-x.ensures c.is_vowel.ensures c.if-is_vowel.false),
                ((unlike 0xE47 c.at-x.ensures c.if-x-eq-MAITAIKHU.false), tt),
              ),
            ),
          ),
        ),
      ),
    )
