use Rattle.std.proofs.Common.{rules, arith}
use Rattle.word_lines.proofs.Digits.{digits_none, digits_more, digits_done, number_none}
use Rattle.word_lines.proofs.number_in.Goals as goal

pub returns-then-text-eq0 : goal.returns-then-text-eq0
returns-then-text-eq0 c = number_none c.args.text.now c.if-text-eq0.true

pub loop-b-init : goal.loop-b-init
loop-b-init c = digits_none _

pub loop-b-preserved : goal.loop-b-preserved
loop-b-preserved c = digits_more c.loop-b.invariant (search rules) c.with_digit-n.ensures

pub returns : goal.returns
returns c = digits_done c.loop-b.invariant (search rules) c.if-text-eq0.false
