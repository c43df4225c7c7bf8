use mathlib.Core.Path.{sym, ◌∙◌}
use Rattle.figures.proofs.Calls.{join_full, join_joined}
use borrow.Author.Rules.{rules}
use Rattle.figures.proofs.join.Goals as goal

pub returns-then-is_full : goal.returns-then-is_full
returns-then-is_full c = join_full c.args.figures.now c.args.more.now c.is_full.ensures c.if-is_full.true

pub join_cells-requires : goal.join_cells-requires
join_cells-requires c = (search rules, search rules, sym c.is_full.ensures ∙ c.if-is_full.false)

pub returns : goal.returns
returns c =
    join_joined c.args.figures.now c.args.more.now c.is_full.ensures c.if-is_full.false
    c.join_cells.ensures
