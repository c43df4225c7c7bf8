use native.Mathlib.Omega.{arith}
use Rattle.figures_cells.proofs.Cells.{most_fits, first_over, both_over}
use Rattle.figures_cells.proofs.is_cell_full.Goals as goal

pub returns-then-i-eq-MOST_EDGES : goal.returns-then-i-eq-MOST_EDGES
returns-then-i-eq-MOST_EDGES c = let g = c.well_formed in most_fits c.args.i c.args.x c.args.y c.if-i-eq-MOST_EDGES.true (omega arith) (omega arith)

pub returns-then-most-x : goal.returns-then-most-x
returns-then-most-x c =
    first_over c.args.i c.args.x c.args.y c.if-i-eq-MOST_EDGES.false c.limit_of-most.ensures
    c.if-most-x.true

pub returns : goal.returns
returns c = both_over c.args.i c.args.x c.args.y c.if-i-eq-MOST_EDGES.false c.limit_of-most.ensures c.if-most-x.false
