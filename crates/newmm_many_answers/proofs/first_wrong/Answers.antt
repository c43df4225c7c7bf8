use Rattle.newmm_many_answers.proofs.TextEnds.{right_more, right_all, stop}
use Rattle.newmm_many_answers.proofs.first_wrong.Goals as goal

pub returns-then-end-from-clause-index : goal.returns-then-end-from-clause-index
returns-then-end-from-clause-index c = stop c.loop-i.invariant c.loop-i-test.true c.then-end-from.either

pub loop-i-preserved : goal.loop-i-preserved
loop-i-preserved c = right_more c.loop-i.invariant c.loop-i-test.true c.if-end-from.false c.if-size-end.false

pub returns-clause-index : goal.returns-clause-index
returns-clause-index c = right_all c.loop-i.invariant c.loop-i-test.false
