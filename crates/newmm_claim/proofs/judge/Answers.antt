use native.Mathlib.Omega.{arith}
use mathlib.Core.Path.{refl}
use Rattle.newmm_claim.proofs.Judging.{judge_first, judge_short, judge_wrong, judge_on, judge_extra, judge_right, place_of}
use Rattle.newmm_claim.proofs.judge.Goals.{then-text-b-via-then-text-b, then-text-b-via-else-text-b+then-not-token_right}
use Rattle.newmm_claim.proofs.judge.Goals as goal

pub loop-k-init : goal.loop-k-init
loop-k-init c = judge_first _ _

pub token_right-requires : goal.token_right-requires
token_right-requires c = place_of c.requires c.if-text-b.false

pub returns-then-text-b : goal.returns-then-text-b
returns-then-text-b c =
    elim c.then-text-b.branch [
      | then-text-b-via-then-text-b w ↦ judge_extra c.loop-k.invariant w.if-text-b.true c.loop-k-test.true
      | then-text-b-via-else-text-b+then-not-token_right w ↦ judge_wrong c.loop-k.invariant c.loop-k-test.true refl w.token_right.ensures w.if-not-token_right.true
    ]

pub loop-k-preserved : goal.loop-k-preserved
loop-k-preserved c =
    judge_on c.loop-k.invariant c.loop-k-test.true refl c.token_right.ensures c.if-not-token_right.false

pub returns-then-b-text : goal.returns-then-b-text
returns-then-b-text c = judge_short c.loop-k.invariant (omega arith) c.if-b-text.true c.loop-k-test.false

pub returns : goal.returns
returns c = judge_right c.loop-k.invariant c.if-b-text.false c.loop-k-test.false
