use Rattle.std.specs.Prelude.{Err, Result}
use borrow.Author.Rules.{rules}
use mathlib.Core.Path.{◌≡◌, sym, subst}
use Prim.Native.Nat.{ℕ, ◌+◌, ◌-◌}
use lib.ListN.{replicate, length-replicate, take, drop}
use Rattle.image_read.specs.declared.Surveyed.{Surveyed}
use Rattle.image_read.proofs.Surveying.{Surveying, surveying_none, surveying_next, stop_neither, stop_number, stop_behind, stop_word, stop_end, listed, shares}
use Rattle.image_read.proofs.Turns.{neither, end, entry, not_next, taken, none_read, no_nodes}
use Rattle.image_read.proofs.survey.Goals as goal

pub loop-at-init : goal.loop-at-init
loop-at-init c =
    surveying_none c.args.image.now (replicate {A = ℕ} 257 0) (take c.new-reader.result.size c.new-reader.result.last) (length-replicate {A = ℕ} 257 0) no_nodes
    (none_read c.new-reader.result.size c.new-reader.result.last c.new-reader.ensures)

pub returns-in_err-count : goal.returns-in_err-count
returns-in_err-count c =
    let e : ◌≡◌ {A = Result Surveyed ℕ} c.from_residual.result (Err c.loop-at.at) = search rules in
    rw e (stop_neither c.loop-at.invariant c.loop-at-test.true (neither c.args.image.now c.loop-at.at c.record_at.ensures c.in_err-count.ensures.ok_part))

pub returns-then-count-words : goal.returns-then-count-words
returns-then-count-words c =
    stop_number c.loop-at.invariant c.loop-at-test.true (end c.args.image.now c.loop-at.at c.record_at.ensures c.in_ok-count.ensures.ok_part c.in-Last.is) c.if-count-words.true

pub returns-then-at-image : goal.returns-then-at-image
returns-then-at-image c =
    stop_behind c.loop-at.invariant c.loop-at-test.true (end c.args.image.now c.loop-at.at c.record_at.ensures c.in_ok-count.ensures.ok_part c.in-Last.is) c.if-count-words.false c.if-at-image.true

pub returns-in-Last : goal.returns-in-Last
returns-in-Last c =
    listed c.loop-at.invariant c.loop-at-test.true (end c.args.image.now c.loop-at.at c.record_at.ensures c.in_ok-count.ensures.ok_part c.in-Last.is) c.if-count-words.false c.if-at-image.false

pub returns-in_err-taken-in-Word : goal.returns-in_err-taken-in-Word
returns-in_err-taken-in-Word c =
    let e : ◌≡◌ {A = Result Surveyed ℕ} c.from_residual-in_err-taken-in-Word.result (Err c.loop-at.at) = search rules in
    rw e (stop_word c.loop-at.invariant (entry c.args.image.now c.loop-at.at c.record_at.ensures c.in_ok-count.ensures.ok_part c.in-Word.is) c.loop-at-test.true (not_next (take (c.in-Word.to - c.in-Word.from) (drop c.in-Word.from c.args.image.now)) (take c.loop-at.reader.size c.loop-at.reader.last) c.take_next.new.self c.take_next.ensures c.in_err-taken-in-Word.ensures.ok_part))

pub raise-requires-clause-n_bound : goal.raise-requires-clause-n_bound
raise-requires-clause-n_bound c =
    let t = taken (take (c.in-Word.to - c.in-Word.from) (drop c.in-Word.from c.args.image.now)) (take c.loop-at.reader.size c.loop-at.reader.last) c.take_next.new.self c.take_next.ensures c.in_ok-taken-in-Word.ensures.ok_part in
    (t.0.short, shares c.loop-at.invariant (entry c.args.image.now c.loop-at.at c.record_at.ensures c.in_ok-count.ensures.ok_part c.in-Word.is) t.0)

pub overflow_sub-nodes : goal.overflow_sub-nodes
overflow_sub-nodes c =
    let t = taken (take (c.in-Word.to - c.in-Word.from) (drop c.in-Word.from c.args.image.now)) (take c.loop-at.reader.size c.loop-at.reader.last) c.take_next.new.self c.take_next.ensures c.in_ok-taken-in-Word.ensures.ok_part in
    shares c.loop-at.invariant (entry c.args.image.now c.loop-at.at c.record_at.ensures c.in_ok-count.ensures.ok_part c.in-Word.is) t.0

pub loop-at-preserved : goal.loop-at-preserved
loop-at-preserved c =
    let t = taken (take (c.in-Word.to - c.in-Word.from) (drop c.in-Word.from c.args.image.now)) (take c.loop-at.reader.size c.loop-at.reader.last) c.take_next.new.self c.take_next.ensures c.in_ok-taken-in-Word.ensures.ok_part in
    subst
    (λ (z : ℕ). Surveying c.args.image.now c.raise.new.levels (c.loop-at.words + 1) (c.loop-at.nodes + (c.in_ok-taken-in-Word.taken.size - c.in_ok-taken-in-Word.taken.shared)) (take z c.take_next.new.self.last) c.in-Word.to)
    (sym t.1) (surveying_next c.loop-at.invariant (entry c.args.image.now c.loop-at.at c.record_at.ensures c.in_ok-count.ensures.ok_part c.in-Word.is) t.0 c.loop-at-test.true c.raise.ensures)

pub returns : goal.returns
returns c = stop_end c.loop-at.invariant c.loop-at-test.false
