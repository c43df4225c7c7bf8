use native.Mathlib.Omega.{arith}
use mathlib.Core.Path.{sym, ◌∙◌}
use Rattle.figures_cells.proofs.Cells.{under_none, under_more, under_all, over_is}
use Rattle.figures_cells.proofs.is_full.Goals as goal

pub loop-i-init : goal.loop-i-init
loop-i-init c = under_none _ _

pub returns-then-is_cell_full : goal.returns-then-is_cell_full
returns-then-is_cell_full c = over_is _ _ _ c.loop-i-test.true (sym c.is_cell_full.ensures ∙ c.if-is_cell_full.true)

pub loop-i-preserved : goal.loop-i-preserved
loop-i-preserved c = under_more c.loop-i.invariant c.loop-i-test.true (sym c.is_cell_full.ensures ∙ c.if-is_cell_full.false)

pub returns : goal.returns
returns c = under_all c.loop-i.invariant c.loop-i-test.false
