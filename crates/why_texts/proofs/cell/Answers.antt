use Rattle.why_texts.proofs.Lines.{cell_none}
use Rattle.why_texts.proofs.cell.Goals as goal

pub returns-then-place-row : goal.returns-then-place-row
returns-then-place-row c = c.wide.ensures

pub returns : goal.returns
returns c = cell_none c.args.row.now c.args.place c.if-place-row.false
