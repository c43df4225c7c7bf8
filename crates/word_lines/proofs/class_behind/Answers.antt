use Rattle.word_lines.proofs.Digits.{class_none, class_is}
use Rattle.word_lines.proofs.class_behind.Goals as goal

pub returns-then-line-tab : goal.returns-then-line-tab
returns-then-line-tab c = class_none c.args.line.now c.args.tab c.if-line-tab.true

pub returns : goal.returns
returns c = class_is c.args.line.now c.args.tab c.if-line-tab.false c.number_in.ensures
