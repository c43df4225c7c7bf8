use native.Mathlib.Omega.{arith}
use Rattle.newmm_words_at.proofs.Finding.{find_first, find_end, find_none, find_part, find_here, find_other}
use Rattle.newmm_words_at.proofs.words_at.Goals as goal
use Rattle.newmm_words_at.proofs.words_at.Goals.{in-Part, in-Word+else-p-e}

pub loop-p-init : goal.loop-p-init
loop-p-init c = find_first _ c.requires c.word_limit-limit.ensures

pub returns-in-Nothing : goal.returns-in-Nothing
returns-in-Nothing c = find_none c.loop-p.invariant _ c.word_step.ensures c.in-Nothing.is

pub returns-then-p-e : goal.returns-then-p-e
returns-then-p-e c = find_here c.loop-p.invariant _ c.word_step.ensures c.loop-p-test.true c.in-Word.is c.if-p-e.true

pub loop-p-preserved : goal.loop-p-preserved
loop-p-preserved c =
    elim c.match-word_step.branch [
      | in-Part w ↦ rw (w.node-is, w.found-is) (find_part c.loop-p.invariant _ c.word_step.ensures c.loop-p-test.true w.in-Part.is)
      | in-Word+else-p-e w ↦ rw (w.node-is, w.found-is) (find_other c.loop-p.invariant _ c.word_step.ensures c.loop-p-test.true w.in-Word.is w.if-p-e.false)
    ]

pub returns : goal.returns
returns c = find_end c.loop-p.invariant (let t = c.loop-p-test.false in omega arith)
