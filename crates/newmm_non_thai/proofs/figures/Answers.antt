use mathlib.Core.Path.{◌∙◌}
use native.Mathlib.Omega.{arith}
use Rattle.lists.proofs.Scans.{leading_inside}
use Rattle.newmm_non_thai.proofs.Matches.{run_is_leading, no_digit, some_digits, through_stop, through_more}
use Rattle.newmm_non_thai.proofs.figures.Goals as goal

pub returns-then-k-eq0 : goal.returns-then-k-eq0
returns-then-k-eq0 g c = no_digit _ _ _ (c.run_length-k.ensures ∙ run_is_leading _ _) c.if-k-eq0.true

pub loop-k-init : goal.loop-k-init
loop-k-init g c =
    let e = c.run_length-k.ensures ∙ run_is_leading g.D.Class.has c.args.s.now in
    some_digits _ _ _ e (omega (arith, leading_inside g.D.Class.has c.args.s.now, e)) c.if-k-eq0.false

pub returns-then-more-eq0 : goal.returns-then-more-eq0
returns-then-more-eq0 g c = through_stop _ _ _ c.loop-k.invariant c.group-more.ensures c.if-more-eq0.true

pub overflow_add-i : goal.overflow_add-i
overflow_add-i g c =
    let t = through_more _ _ _ c.loop-k.invariant c.group-more.ensures c.if-more-eq0.false in
    omega (arith, t.inside)

pub loop-k-preserved : goal.loop-k-preserved
loop-k-preserved g c = through_more _ _ _ c.loop-k.invariant c.group-more.ensures c.if-more-eq0.false
