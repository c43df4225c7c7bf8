use native.Mathlib.Omega.{arith}
use Rattle.figures.proofs.Calls.{below, above, a_text}
use Rattle.figures.proofs.feed_refused.Goals as goal

pub returns-then-number-lt1 : goal.returns-then-number-lt1
returns-then-number-lt1 c = below c.args.figures.now c.args.number c.if-number-lt1.true

pub returns-then-number-gt-LAST_REFUSAL : goal.returns-then-number-gt-LAST_REFUSAL
returns-then-number-gt-LAST_REFUSAL c = above c.args.figures.now c.args.number c.if-number-lt1.false c.if-number-gt-LAST_REFUSAL.true

pub of_refused-one-requires : goal.of_refused-one-requires
of_refused-one-requires c =
    let h = c.if-number-lt1.false in
    let l = c.if-number-gt-LAST_REFUSAL.false in
    (omega arith, omega arith)

pub returns : goal.returns
returns c =
    a_text c.args.figures.now c.args.number c.if-number-lt1.false c.if-number-gt-LAST_REFUSAL.false
    c.of_refused-one.ensures c.join.ensures
