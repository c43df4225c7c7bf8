use mathlib.Core.List.{[]}
use Rattle.newmm_many_answers.specs.Singles.{singly}
use Rattle.newmm_many_answers.specs.Calls.{many_call}
use Rattle.newmm_many_turn.specs.inner.Knowing.{seen_in}
use Rattle.newmm_many.proofs.Turned.{Turned}
use Rattle.newmm_many.proofs.answer_texts.Given as goal

abbrev pub invariant-loop-i : goal.invariant-loop-i
invariant-loop-i l = Turned (singly l.wanted l.mode (seen_in l.view)) (many_call l.texts l.text_ends [] l.initial.answers l.initial.out l.initial.scratch l.mode) l.answers l.out l.scratch l.from l.used l.i l.blank
