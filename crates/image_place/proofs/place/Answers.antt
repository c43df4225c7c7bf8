use Rattle.std.specs.Prelude.{Some}
use mathlib.Core.Path.{refl, ap, ◌∙◌}
use Rattle.image_place.proofs.Placing.{turn_none, turn_next, all_placed, stop_last, stop_broken, stop_word, asks}
use Rattle.image_place.proofs.place.Goals as goal

pub loop-at-init : goal.loop-at-init
loop-at-init c = turn_none c.new-reader.result c.requires c.new-reader.ensures

pub returns-in_default-clause-placed : goal.returns-in_default-clause-placed
returns-in_default-clause-placed c = stop_broken c.loop-at.invariant c.record_at.result c.record_at.ensures c.in_default.is

pub returns-in_default-record-clause-placed : goal.returns-in_default-record-clause-placed
returns-in_default-record-clause-placed c =
    stop_last c.loop-at.invariant c.record_at.result c.record_at.ensures (c.in-Some.is ∙ ap Some c.in_default-record.is)

pub returns-in_default-take_next-clause-placed : goal.returns-in_default-take_next-clause-placed
returns-in_default-take_next-clause-placed c =
    stop_word c.loop-at.invariant c.record_at.result c.record_at.ensures (c.in-Some.is ∙ ap Some c.in-Word.is)
    c.take_next.new.self c.take_next.result c.take_next.ensures c.in_default-take_next.is

pub append-requires : goal.append-requires
append-requires c =
    asks c.loop-at.invariant c.record_at.result c.record_at.ensures (c.in-Some.is ∙ ap Some c.in-Word.is)
    c.take_next.new.self c.take_next.result c.take_next.ensures c.in-Some-take_next.is refl

pub loop-at-preserved : goal.loop-at-preserved
loop-at-preserved c =
    turn_next c.loop-at.invariant c.record_at.result c.record_at.ensures (c.in-Some.is ∙ ap Some c.in-Word.is)
    c.take_next.new.self c.take_next.result c.take_next.ensures c.in-Some-take_next.is refl c.append.ensures c.append.auto.p

pub returns-clause-placed : goal.returns-clause-placed
returns-clause-placed c = all_placed c.loop-at.invariant c.loop-at-test.false
