use native.Mathlib.Omega.{arith}
use mathlib.Core.Path.{refl, sym, ◌∙◌}
use Rattle.tcc_rules.specs.Rules.{consonant, tone}
use Rattle.tcc_rules.proofs.Classes.{seen, unlike}
use Rattle.tcc_rules.proofs.StartsE.{i_none, i_mark, i_mark_no, i_yo, i_plain}
use Rattle.tcc_match.proofs.after_e.from_e_i.Goals as goal

pub overflow_add-p : goal.overflow_add-p
overflow_add-p c = omega (arith, c.requires.0)

pub from_e_i_tone-requires : goal.from_e_i_tone-requires
from_e_i_tone-requires c = (
  c.requires.0,
  (
    c.requires.1.0,
    (
      c.requires.1.1.0,
      (
        c.requires.1.1.1.0,
        (((seen tone c.at-x.ensures c.is_tone.ensures c.if-is_tone.true), refl), tt),
      ),
    ),
  ),
)

pub returns-then-is_tone : goal.returns-then-is_tone
returns-then-is_tone c = c.from_e_i_tone.ensures

pub overflow_add-result : goal.overflow_add-result
overflow_add-result c = omega (arith, c.requires.0)

pub returns-then-not-is_consonant : goal.returns-then-not-is_consonant
returns-then-not-is_consonant c =
    i_none c.args.text.now c.args.p c.requires (
      (seen tone c.at-x.ensures c.is_tone.ensures c.if-is_tone.false),
      ((seen consonant c.at-x.ensures c.is_consonant.ensures c.if-not-is_consonant.true), tt),
    )

pub overflow_add-p-2 : goal.overflow_add-p-2
overflow_add-p-2 c = omega (arith, c.requires.0)

pub overflow_add-p-then-at-eq-THANTHAKHAT : goal.overflow_add-p-then-at-eq-THANTHAKHAT
overflow_add-p-then-at-eq-THANTHAKHAT c = omega (arith, c.requires.0)

pub overflow_add-p-then-is_consonant : goal.overflow_add-p-then-is_consonant
overflow_add-p-then-is_consonant c = omega (arith, c.requires.0)

pub returns-then-is_consonant : goal.returns-then-is_consonant
returns-then-is_consonant c =
    c.group_k.ensures ∙ i_mark c.args.text.now c.args.p c.requires
    (seen consonant c.at-x.ensures c.is_consonant.ensures c.if-not-is_consonant.false)
    (sym c.at.ensures ∙ c.if-at-eq-THANTHAKHAT.true)
    (seen consonant c.at-then-at-eq-THANTHAKHAT.ensures c.is_consonant-then-at-eq-THANTHAKHAT.ensures c.if-is_consonant.true)

pub overflow_add-result-then-at-eq-THANTHAKHAT : goal.overflow_add-result-then-at-eq-THANTHAKHAT
overflow_add-result-then-at-eq-THANTHAKHAT c = omega (arith, c.requires.0)

pub returns-then-at-eq-THANTHAKHAT : goal.returns-then-at-eq-THANTHAKHAT
returns-then-at-eq-THANTHAKHAT c =
    i_mark_no c.args.text.now c.args.p c.requires
    (seen consonant c.at-x.ensures c.is_consonant.ensures c.if-not-is_consonant.false)
    (sym c.at.ensures ∙ c.if-at-eq-THANTHAKHAT.true)
    (seen consonant c.at-then-at-eq-THANTHAKHAT.ensures c.is_consonant-then-at-eq-THANTHAKHAT.ensures c.if-is_consonant.false)

pub overflow_add-p-then-x-eq-YO_YAK : goal.overflow_add-p-then-x-eq-YO_YAK
overflow_add-p-then-x-eq-YO_YAK c = omega (arith, c.requires.0)

pub returns-then-x-eq-YO_YAK : goal.returns-then-x-eq-YO_YAK
returns-then-x-eq-YO_YAK c =
    c.shorter_k.ensures ∙ i_yo c.args.text.now c.args.p c.requires
    (sym c.at-x.ensures ∙ c.if-x-eq-YO_YAK.true) (unlike 0xE4C c.at.ensures c.if-at-eq-THANTHAKHAT.false)

pub overflow_add-p-3 : goal.overflow_add-p-3
overflow_add-p-3 c = omega (arith, c.requires.0)

pub returns : goal.returns
returns c =
    c.group_k-2.ensures ∙ i_plain c.args.text.now c.args.p c.requires
    (seen consonant c.at-x.ensures c.is_consonant.ensures c.if-not-is_consonant.false)
    (unlike 0xE22 c.at-x.ensures c.if-x-eq-YO_YAK.false) (unlike 0xE4C c.at.ensures c.if-at-eq-THANTHAKHAT.false)
