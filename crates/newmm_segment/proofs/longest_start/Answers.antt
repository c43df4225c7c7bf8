use native.Mathlib.Omega.{arith}
use mathlib.Core.Path.{refl}
use Rattle.newmm_segment.proofs.Longest.{meeting_first, end_above, meeting_yes, meeting_no, all_start_is}
use Rattle.newmm_segment.proofs.longest_start.Goals as goal
use Rattle.newmm_segment.proofs.longest_start.Goals.{then-most-from, else-most-from}

pub loop-end-init : goal.loop-end-init
loop-end-init c = meeting_first _ c.requires

pub overflow_sub-from : goal.overflow_sub-from
overflow_sub-from c = omega (arith, end_above c.loop-end.invariant c.loop-end-test.true)

pub overflow_sub-most : goal.overflow_sub-most
overflow_sub-most c = omega (arith, end_above c.loop-end.invariant c.loop-end-test.true)

pub loop-end-preserved : goal.loop-end-preserved
loop-end-preserved c =
    elim c.if-most-from.branch [
      | then-most-from w ↦ rw (w.start-is, w.most-is) (meeting_yes c.loop-end.invariant c.loop-end-test.true _ refl w.if-most-from.true)
      | else-most-from w ↦ rw (w.start-is, w.most-is) (meeting_no c.loop-end.invariant c.loop-end-test.true _ refl w.if-most-from.false)
    ]

pub returns-clause-value : goal.returns-clause-value
returns-clause-value c = all_start_is c.loop-end.invariant (let t = c.loop-end-test.false in omega arith)
