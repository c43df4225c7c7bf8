use native.Mathlib.Omega.{arith}
use Rattle.figures_cells.proofs.Cells.{second_is, first_is, sum_is, sum_fits}
use Rattle.figures_cells.proofs.join_cell.Goals as goal

pub returns-then-x-y : goal.returns-then-x-y
returns-then-x-y c = second_is c.args.i c.args.x c.args.y c.if-i-eq-MOST_EDGES.true c.if-x-y.true

pub returns-then-i-eq-MOST_EDGES : goal.returns-then-i-eq-MOST_EDGES
returns-then-i-eq-MOST_EDGES c = first_is c.args.i c.args.x c.args.y c.if-i-eq-MOST_EDGES.true c.if-x-y.false

pub overflow_add-result : goal.overflow_add-result
overflow_add-result c = omega (arith, sum_fits c.args.i c.args.x c.args.y c.if-i-eq-MOST_EDGES.false c.requires)

pub returns : goal.returns
returns c = sum_is c.args.i c.args.x c.args.y c.if-i-eq-MOST_EDGES.false
