use Rattle.break_map_cells.proofs.Reading.{past_none, past_more, past_found, past_all}
use Rattle.break_map_cells.proofs.first_from.Goals as goal

pub loop-p-init : goal.loop-p-init
loop-p-init c = past_none _ _ _

pub returns-then-bits-ne0 : goal.returns-then-bits-ne0
returns-then-bits-ne0 c =
    past_found c.loop-p.invariant c.loop-p-test.true c.bits_from-bits.ensures c.if-bits-ne0.true
    c.lowest.ensures.0

pub loop-p-preserved : goal.loop-p-preserved
loop-p-preserved c = past_more c.loop-p.invariant c.loop-p-test.true c.bits_from-bits.ensures c.if-bits-ne0.false

pub returns : goal.returns
returns c = past_all c.loop-p.invariant c.loop-p-test.false
