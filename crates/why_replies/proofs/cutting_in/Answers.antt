use Rattle.why_replies.proofs.Asking.{cut_sheet, cut_other}
use Rattle.why_replies.proofs.cutting_in.Goals as goal

pub returns-then-asks_sheet : goal.returns-then-asks_sheet
returns-then-asks_sheet c = cut_sheet c.args.line.now c.asks_sheet.ensures c.if-asks_sheet.true

pub returns-in-Nothing : goal.returns-in-Nothing
returns-in-Nothing c = cut_other c.args.line.now c.asks_sheet.ensures c.if-asks_sheet.false c.asks-other.ensures c.in-Nothing.is

pub returns-in-Add : goal.returns-in-Add
returns-in-Add c = cut_other c.args.line.now c.asks_sheet.ensures c.if-asks_sheet.false c.asks-other.ensures c.in-Add.is

pub returns-in-Remove : goal.returns-in-Remove
returns-in-Remove c = cut_other c.args.line.now c.asks_sheet.ensures c.if-asks_sheet.false c.asks-other.ensures c.in-Remove.is

pub returns-in-Cut : goal.returns-in-Cut
returns-in-Cut c = cut_other c.args.line.now c.asks_sheet.ensures c.if-asks_sheet.false c.asks-other.ensures c.in-Cut.is
