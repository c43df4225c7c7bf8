use Prim.Native.Nat.{◌+◌}
use native.Mathlib.Omega.{arith}
use mathlib.Core.Path.{sym, ◌∙◌}
use Rattle.tcc_rules.specs.Rules.{tone}
use Rattle.tcc_rules.proofs.Classes.{unlike}
use Rattle.tcc_rules.proofs.Skips.{skip_near}
use Rattle.tcc_rules.proofs.StartsE.{ii_no, ii_a, ii_yo}
use Rattle.tcc_match.proofs.after_e.from_e_ii.Goals as goal

pub overflow_add-p : goal.overflow_add-p
overflow_add-p c = omega (arith, c.requires.0)

pub overflow_add-result : goal.overflow_add-result
overflow_add-result c = omega (arith, c.requires.0)

pub returns-then-at-ne-YO_YAK : goal.returns-then-at-ne-YO_YAK
returns-then-at-ne-YO_YAK c =
    ii_no c.args.text.now c.args.p c.requires _ c.skip-q.ensures
    (unlike 0xE22 c.at.ensures c.if-at-ne-YO_YAK.true)

pub overflow_add-q : goal.overflow_add-q
overflow_add-q c = omega (arith, c.requires.0, c.skip-q.ensures, skip_near tone c.args.text.now (c.args.p + 3))

pub overflow_add-q-then-at-eq-SARA_A : goal.overflow_add-q-then-at-eq-SARA_A
overflow_add-q-then-at-eq-SARA_A c = omega (arith, c.requires.0, c.skip-q.ensures, skip_near tone c.args.text.now (c.args.p + 3))

pub returns-then-at-eq-SARA_A : goal.returns-then-at-eq-SARA_A
returns-then-at-eq-SARA_A c =
    c.group_k.ensures ∙ ii_a c.args.text.now c.args.p c.requires _ c.skip-q.ensures
    (sym c.at.ensures ∙ c.if-at-ne-YO_YAK.false) (sym c.at-2.ensures ∙ c.if-at-eq-SARA_A.true)

pub overflow_add-q-2 : goal.overflow_add-q-2
overflow_add-q-2 c = omega (arith, c.requires.0, c.skip-q.ensures, skip_near tone c.args.text.now (c.args.p + 3))

pub returns : goal.returns
returns c =
    c.shorter_k.ensures ∙ ii_yo c.args.text.now c.args.p c.requires _ c.skip-q.ensures
    (sym c.at.ensures ∙ c.if-at-ne-YO_YAK.false) (unlike 0xE30 c.at-2.ensures c.if-at-eq-SARA_A.false)
