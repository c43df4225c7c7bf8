use native.Mathlib.Omega.{arith}
use mathlib.Core.Path.{subst, sym}
use Rattle.newmm_skip.proofs.Skipping.{Trying}
use Rattle.newmm_skip.proofs.Trying.{trying_first, trying_end, trying_none, trying_part, trying_short, trying_word}
use Rattle.newmm_skip.proofs.starts_word.Goals as goal
use Rattle.newmm_skip.proofs.starts_word.Goals.{in-Part, in-Word+else-not-is_short}

pub loop-e-init : goal.loop-e-init
loop-e-init c = trying_first c.requires c.word_limit-limit.ensures

pub returns-in-Nothing : goal.returns-in-Nothing
returns-in-Nothing c = trying_none c.loop-e.invariant _ c.word_step.ensures c.in-Nothing.is

pub returns-then-not-is_short : goal.returns-then-not-is_short
returns-then-not-is_short c =
    trying_word c.loop-e.invariant _ c.word_step.ensures c.loop-e-test.true c.in-Word.is c.is_short.ensures c.if-not-is_short.true

pub loop-e-preserved : goal.loop-e-preserved
loop-e-preserved c =
    elim c.match-word_step.branch [
      | in-Part w ↦ rw w.node-is (trying_part c.loop-e.invariant _ c.word_step.ensures c.loop-e-test.true w.in-Part.is)
      | in-Word+else-not-is_short w ↦
          rw w.node-is (trying_short c.loop-e.invariant _ c.word_step.ensures c.loop-e-test.true w.in-Word.is w.is_short.ensures w.if-not-is_short.false)
    ]

pub returns : goal.returns
returns c = trying_end c.loop-e.invariant (let t = c.loop-e-test.false in omega arith)
