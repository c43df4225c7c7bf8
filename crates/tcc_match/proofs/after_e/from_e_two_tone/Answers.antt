use native.Mathlib.Omega.{arith}
use mathlib.Core.Path.{sym, ◌∙◌}
use Rattle.tcc_rules.proofs.Classes.{unlike}
use Rattle.tcc_rules.proofs.StartsE.{e_two_tone, e_two_tone_no, e_two_tone_aa}
use Rattle.tcc_match.proofs.after_e.from_e_two_tone.Goals as goal

pub overflow_add-p : goal.overflow_add-p
overflow_add-p c = omega (arith, c.requires.0)

pub overflow_add-result : goal.overflow_add-result
overflow_add-result c = omega (arith, c.requires.0)

pub returns-then-at-ne-SARA_AA : goal.returns-then-at-ne-SARA_AA
returns-then-at-ne-SARA_AA c =
    e_two_tone_no c.args.text.now c.args.p c.requires
    (unlike 0xE32 c.at.ensures c.if-at-ne-SARA_AA.true)

pub overflow_add-p-2 : goal.overflow_add-p-2
overflow_add-p-2 c = omega (arith, c.requires.0)

pub overflow_add-result-then-at-ne-SARA_A : goal.overflow_add-result-then-at-ne-SARA_A
overflow_add-result-then-at-ne-SARA_A c = omega (arith, c.requires.0)

pub returns-then-at-ne-SARA_A : goal.returns-then-at-ne-SARA_A
returns-then-at-ne-SARA_A c =
    e_two_tone_aa c.args.text.now c.args.p c.requires (sym c.at.ensures ∙ c.if-at-ne-SARA_AA.false)
    (unlike 0xE30 c.at-2.ensures c.if-at-ne-SARA_A.true)

pub overflow_add-p-3 : goal.overflow_add-p-3
overflow_add-p-3 c = omega (arith, c.requires.0)

pub returns : goal.returns
returns c =
    c.group_k.ensures ∙ e_two_tone c.args.text.now c.args.p c.requires
    (sym c.at.ensures ∙ c.if-at-ne-SARA_AA.false) (sym c.at-2.ensures ∙ c.if-at-ne-SARA_A.false)
