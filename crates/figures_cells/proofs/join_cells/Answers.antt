use native.Mathlib.Omega.{arith}
use Rattle.figures_cells.proofs.Cells.{joining_none, row_size, joining_fits, joining_more, joining_all}
use Rattle.figures_cells.proofs.join_cells.Goals as goal

pub loop-i-init : goal.loop-i-init
loop-i-init c = joining_none _ _ c.requires.0 c.requires.2

pub join_cell-requires : goal.join_cell-requires
join_cell-requires c = joining_fits c.loop-i.invariant c.loop-i-test.true

pub loop-i-preserved : goal.loop-i-preserved
loop-i-preserved c = joining_more c.loop-i.invariant c.loop-i-test.true c.join_cell.ensures

pub returns : goal.returns
returns c = joining_all c.loop-i.invariant c.loop-i-test.false
