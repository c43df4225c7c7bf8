use native.Mathlib.Omega.{arith}
use mathlib.Core.Path.{refl, sym, ◌∙◌}
use Rattle.tcc_rules.specs.Rules.{consonant, tone}
use Rattle.tcc_rules.proofs.Classes.{seen, unlike}
use Rattle.tcc_rules.proofs.StartsE.{e_two_aa, e_two_aa_no, e_two_short, e_two_short_no, e_two_none}
use Rattle.tcc_match.proofs.after_e.from_e_two.Goals as goal

pub overflow_add-p : goal.overflow_add-p
overflow_add-p c = omega (arith, c.requires.0)

pub from_e_two_tone-requires : goal.from_e_two_tone-requires
from_e_two_tone-requires c = (
  c.requires.0,
  (
    c.requires.1.0,
    (
      c.requires.1.1.0,
      (
        c.requires.1.1.1.0,
        (((seen tone c.at-x.ensures c.is_tone.ensures c.if-is_tone.true), refl), tt),
      ),
    ),
  ),
)

pub returns-then-is_tone : goal.returns-then-is_tone
returns-then-is_tone c = c.from_e_two_tone.ensures

pub from_e_two_ii-requires : goal.from_e_two_ii-requires
from_e_two_ii-requires c = (
  c.requires.0,
  (
    c.requires.1.0,
    (c.requires.1.1.0, (c.requires.1.1.1.0, ((sym c.at-x.ensures ∙ c.if-x-eq-SARA_II.true), tt))),
  ),
)

pub returns-then-x-eq-SARA_II : goal.returns-then-x-eq-SARA_II
returns-then-x-eq-SARA_II c = c.from_e_two_ii.ensures

pub overflow_add-p-then-x-eq-SARA_AA : goal.overflow_add-p-then-x-eq-SARA_AA
overflow_add-p-then-x-eq-SARA_AA c = omega (arith, c.requires.0)

pub overflow_add-p-then-at-eq-SARA_A : goal.overflow_add-p-then-at-eq-SARA_A
overflow_add-p-then-at-eq-SARA_A c = omega (arith, c.requires.0)

pub returns-then-at-eq-SARA_A : goal.returns-then-at-eq-SARA_A
returns-then-at-eq-SARA_A c =
    c.group_k.ensures ∙ e_two_aa c.args.text.now c.args.p c.requires
    (sym c.at-x.ensures ∙ c.if-x-eq-SARA_AA.true) (sym c.at.ensures ∙ c.if-at-eq-SARA_A.true)

pub overflow_add-result : goal.overflow_add-result
overflow_add-result c = omega (arith, c.requires.0)

pub returns-then-x-eq-SARA_AA : goal.returns-then-x-eq-SARA_AA
returns-then-x-eq-SARA_AA c =
    e_two_aa_no c.args.text.now c.args.p c.requires (sym c.at-x.ensures ∙ c.if-x-eq-SARA_AA.true)
    (unlike 0xE30 c.at.ensures c.if-at-eq-SARA_A.false)

pub overflow_add-p-then-x-eq-MAITAIKHU : goal.overflow_add-p-then-x-eq-MAITAIKHU
overflow_add-p-then-x-eq-MAITAIKHU c = omega (arith, c.requires.0)

pub overflow_add-p-then-is_consonant : goal.overflow_add-p-then-is_consonant
overflow_add-p-then-is_consonant c = omega (arith, c.requires.0)

pub returns-then-is_consonant : goal.returns-then-is_consonant
returns-then-is_consonant c =
    c.group_k-then-is_consonant.ensures ∙ e_two_short c.args.text.now c.args.p c.requires
    (sym c.at-x.ensures ∙ c.if-x-eq-MAITAIKHU.true)
    (seen consonant c.at-then-x-eq-MAITAIKHU.ensures c.is_consonant.ensures c.if-is_consonant.true)

pub overflow_add-result-then-x-eq-MAITAIKHU : goal.overflow_add-result-then-x-eq-MAITAIKHU
overflow_add-result-then-x-eq-MAITAIKHU c = omega (arith, c.requires.0)

pub returns-then-x-eq-MAITAIKHU : goal.returns-then-x-eq-MAITAIKHU
returns-then-x-eq-MAITAIKHU c =
    e_two_short_no c.args.text.now c.args.p c.requires (sym c.at-x.ensures ∙ c.if-x-eq-MAITAIKHU.true)
    (seen consonant c.at-then-x-eq-MAITAIKHU.ensures c.is_consonant.ensures c.if-is_consonant.false)

pub overflow_add-p-2 : goal.overflow_add-p-2
overflow_add-p-2 c = omega (arith, c.requires.0)

pub returns : goal.returns
returns c =
    c.group_k-2.ensures ∙ e_two_none c.args.text.now c.args.p c.requires (
      (seen tone c.at-x.ensures c.is_tone.ensures c.if-is_tone.false),
      (
        (unlike 0xE35 c.at-x.ensures c.if-x-eq-SARA_II.false),
        (
          (unlike 0xE32 c.at-x.ensures c.if-x-eq-SARA_AA.false),
          ((unlike 0xE47 c.at-x.ensures c.if-x-eq-MAITAIKHU.false), tt),
        ),
      ),
    )
