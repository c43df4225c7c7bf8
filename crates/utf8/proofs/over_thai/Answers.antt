use native.Mathlib.Omega.{arith}
use Rattle.utf8.proofs.Runs.{read_more}
use Rattle.utf8.proofs.over_thai.Goals as goal

pub loop-at-init : goal.loop-at-init
loop-at-init c = (c.requires, omega arith)

pub returns-then-not-thai_of_four : goal.returns-then-not-thai_of_four
returns-then-not-thai_of_four c = c.loop-at.invariant

pub overflow_add-n : goal.overflow_add-n
overflow_add-n c = omega (arith, c.loop-at.invariant.0.few, c.loop-at-test.true, c.if-s-lt4.false)

pub loop-at-smaller : goal.loop-at-smaller
loop-at-smaller c = omega (arith, c.loop-at-test.true, c.if-s-lt4.false)

pub loop-at-preserved : goal.loop-at-preserved
loop-at-preserved c = (
  read_more 3 c.loop-at.invariant.0 (c.thai_of_four.ensures c.if-not-thai_of_four.false)
      (omega arith),
  omega (arith, c.loop-at.invariant.1),
)

pub over_one_thai-requires-2 : goal.over_one_thai-requires-2
over_one_thai-requires-2 c = c.loop-at.invariant.0

pub returns : goal.returns
returns c = (c.over_one_thai-2.ensures.0, omega (arith, c.over_one_thai-2.ensures.1, c.loop-at.invariant.1))
