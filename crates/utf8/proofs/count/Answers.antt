use Rattle.utf8.proofs.Runs.{read_none, read_ascii, read_done}
use native.Mathlib.Omega.{arith}
use Rattle.utf8.proofs.count.Goals as goal

pub loop-at-init : goal.loop-at-init
loop-at-init c = read_none _

pub returns-then-s-r : goal.returns-then-s-r
returns-then-s-r c = read_done c.over_thai-r.ensures.0 c.if-s-r.true

pub count_by_table-requires : goal.count_by_table-requires
count_by_table-requires c = c.over_thai-r.ensures.0

pub overflow_add-at : goal.overflow_add-at
overflow_add-at c = omega (arith, c.if-s-r.false)

pub overflow_add-n : goal.overflow_add-n
overflow_add-n c = omega (arith, c.over_thai-r.ensures.0.few, c.if-s-r.false)

pub loop-at-smaller : goal.loop-at-smaller
loop-at-smaller c = omega (arith, c.over_thai-r.ensures.1, c.if-s-r.false, c.loop-at-test.true)

pub loop-at-preserved : goal.loop-at-preserved
loop-at-preserved c = read_ascii c.over_thai-r.ensures.0 c.if-s-r.false c.if-s-r-ge128.false

pub returns : goal.returns
returns c = read_done c.loop-at.invariant c.loop-at-test.false
