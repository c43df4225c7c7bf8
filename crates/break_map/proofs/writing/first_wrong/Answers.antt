use native.Mathlib.Omega.{arith}
use mathlib.Core.Path.{refl}
use Rattle.break_map.proofs.Ends.{right_none, right_more, right_stop, right_all}
use Rattle.break_map.proofs.writing.first_wrong.Goals as goal

pub loop-i-init : goal.loop-i-init
loop-i-init c = right_none _ _

pub returns-then-end-before-clause-index : goal.returns-then-end-before-clause-index
returns-then-end-before-clause-index c =
    right_stop c.loop-i.invariant c.loop-i-test.true refl (λ a b. omega (arith, c.then-end-before.either))

pub loop-i-preserved : goal.loop-i-preserved
loop-i-preserved c = right_more c.loop-i.invariant c.loop-i-test.true refl c.if-end-before.false c.if-n-end.false

pub returns-clause-index : goal.returns-clause-index
returns-clause-index c = right_all c.loop-i.invariant c.loop-i-test.false
