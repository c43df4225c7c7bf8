use Prim.Native.Nat.{◌+◌}
use native.Mathlib.Omega.{arith}
use mathlib.Core.Path.{sym, ◌∙◌}
use Rattle.tcc_rules.specs.Rules.{tone}
use Rattle.tcc_rules.proofs.Classes.{unlike}
use Rattle.tcc_rules.proofs.Skips.{skip_near}
use Rattle.tcc_rules.proofs.StartsE.{uee_no, uee_yes}
use Rattle.tcc_match.proofs.after_e.from_e_uee.Goals as goal

pub overflow_add-p : goal.overflow_add-p
overflow_add-p c = omega (arith, c.requires.0)

pub overflow_add-result : goal.overflow_add-result
overflow_add-result c = omega (arith, c.requires.0)

pub returns-then-at-ne-O_ANG : goal.returns-then-at-ne-O_ANG
returns-then-at-ne-O_ANG c =
    uee_no c.args.text.now c.args.p c.requires _ c.skip-q.ensures
    (unlike 0xE2D c.at.ensures c.if-at-ne-O_ANG.true)

pub overflow_add-q : goal.overflow_add-q
overflow_add-q c = omega (arith, c.requires.0, c.skip-q.ensures, skip_near tone c.args.text.now (c.args.p + 3))

pub returns : goal.returns
returns c =
    c.group_k.ensures ∙ uee_yes c.args.text.now c.args.p c.requires _ c.skip-q.ensures
    (sym c.at.ensures ∙ c.if-at-ne-O_ANG.false) c.skip.ensures
