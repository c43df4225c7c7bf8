use native.Mathlib.Omega.{arith}
use mathlib.Core.Path.{sym, ◌∙◌}
use Rattle.tcc_rules.specs.Rules.{consonant}
use Rattle.tcc_rules.proofs.Classes.{seen, unlike}
use Rattle.tcc_rules.proofs.StartsE.{i_tone_yo, i_tone, i_tone_no}
use Rattle.tcc_match.proofs.after_e.from_e_i_tone.Goals as goal

pub overflow_add-p : goal.overflow_add-p
overflow_add-p c = omega (arith, c.requires.0)

pub overflow_add-p-then-x-eq-YO_YAK : goal.overflow_add-p-then-x-eq-YO_YAK
overflow_add-p-then-x-eq-YO_YAK c = omega (arith, c.requires.0)

pub returns-then-x-eq-YO_YAK : goal.returns-then-x-eq-YO_YAK
returns-then-x-eq-YO_YAK c =
    c.shorter_k.ensures ∙ i_tone_yo c.args.text.now c.args.p c.requires
    (sym c.at-x.ensures ∙ c.if-x-eq-YO_YAK.true)

pub overflow_add-p-then-is_consonant : goal.overflow_add-p-then-is_consonant
overflow_add-p-then-is_consonant c = omega (arith, c.requires.0)

pub returns-then-is_consonant : goal.returns-then-is_consonant
returns-then-is_consonant c =
    c.group_k.ensures ∙ i_tone c.args.text.now c.args.p c.requires
    (seen consonant c.at-x.ensures c.is_consonant.ensures c.if-is_consonant.true)
    (unlike 0xE22 c.at-x.ensures c.if-x-eq-YO_YAK.false)

pub overflow_add-result : goal.overflow_add-result
overflow_add-result c = omega (arith, c.requires.0)

pub returns : goal.returns
returns c =
    i_tone_no c.args.text.now c.args.p c.requires
    (seen consonant c.at-x.ensures c.is_consonant.ensures c.if-is_consonant.false)
