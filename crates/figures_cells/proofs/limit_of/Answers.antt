use Rattle.figures_cells.proofs.Cells.{limit_texts, limit_other}
use Rattle.figures_cells.proofs.limit_of.Goals as goal

pub returns-then-i-eq-TEXTS : goal.returns-then-i-eq-TEXTS
returns-then-i-eq-TEXTS c = limit_texts c.args.i c.if-i-eq-TEXTS.true

pub returns : goal.returns
returns c = limit_other c.args.i c.if-i-eq-TEXTS.false
