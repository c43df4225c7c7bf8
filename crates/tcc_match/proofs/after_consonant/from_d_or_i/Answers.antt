use native.Mathlib.Omega.{arith}
use mathlib.Core.Path.{sym, ◌∙◌}
use Rattle.tcc_rules.proofs.Classes.{unlike}
use Rattle.tcc_rules.proofs.StartsConsonant.{d_mark, d_none}
use Rattle.tcc_match.proofs.after_consonant.from_d_or_i.Goals as goal

pub overflow_add-p : goal.overflow_add-p
overflow_add-p c = omega (arith, c.requires.0)

pub overflow_add-p-then-at-eq-THANTHAKHAT : goal.overflow_add-p-then-at-eq-THANTHAKHAT
overflow_add-p-then-at-eq-THANTHAKHAT c = omega (arith, c.requires.0)

pub returns-then-at-eq-THANTHAKHAT : goal.returns-then-at-eq-THANTHAKHAT
returns-then-at-eq-THANTHAKHAT c =
    c.group_k.ensures ∙ d_mark c.args.text.now c.args.p c.requires
    (sym c.at.ensures ∙ c.if-at-eq-THANTHAKHAT.true)

pub overflow_add-p-2 : goal.overflow_add-p-2
overflow_add-p-2 c = omega (arith, c.requires.0)

pub returns : goal.returns
returns c =
    c.group_k-2.ensures ∙ d_none c.args.text.now c.args.p c.requires
    (unlike 0xE4C c.at.ensures c.if-at-eq-THANTHAKHAT.false) c.skip.ensures
