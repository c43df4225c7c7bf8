use native.Mathlib.Omega.{arith}
use mathlib.Core.Path.{refl}
use Rattle.newmm_answers.specs.inner.Passing.{in_view}
use Rattle.newmm_many_answers.specs.Turns.{ends_told}
use Rattle.newmm_reasons_answers.specs.Answers.{pair_room}
use Rattle.newmm_told.proofs.Told.{Came, came, told_room, told_fits, cleared_told}
use Rattle.newmm_reasons.proofs.Pairs.{wrote}
use Rattle.newmm_many_turn.proofs.pairs_ready.Goals as goal

pub take_pairs-requires : goal.take_pairs-requires
take_pairs-requires c =
    let told : Came c.args.mode c.args.text.now (in_view c.args.view.now) c.args.scratch.now c.tell_ready-told.new.scratch (pair_room c.args.out.now) (ends_told c.tell_ready-told.result) = came c.tell_ready-told.ensures refl in
    (told_fits told, omega (arith, told_room told))

pub returns : goal.returns
returns c =
    let told : Came c.args.mode c.args.text.now (in_view c.args.view.now) c.args.scratch.now c.tell_ready-told.new.scratch (pair_room c.args.out.now) (ends_told c.tell_ready-told.result) = came c.tell_ready-told.ensures refl in (
      c.tell_ready-told.ensures.0,
      (wrote c.args.out.now told c.take_pairs.ensures.out, cleared_told told c.tell_ready-told.auto.scratch c.take_pairs.ensures.scratch),
    )
