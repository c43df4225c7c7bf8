use Rattle.std.specs.Prelude.{Result}
use mathlib.Core.Path.{refl, sym, subst}
use lib.ListN.{length}
use Rattle.refusal.specs.declared.Refusal.{Refusal}
use Rattle.refusal.proofs.Causes.{handed_on}
use Rattle.newmm_rules.specs.declared.Ends.{Ends}
use Rattle.newmm_answers.specs.inner.Passing.{Passes, Sees}
use Rattle.newmm_answers.proofs.Checks.{passes}
use Rattle.newmm_answers.proofs.Views.{Viewed, sees}
use Rattle.newmm.proofs.Calls.{still_sees, now_blank}
use Rattle.newmm_many_answers.specs.Singles.{singly}
use Rattle.newmm_many_answers.specs.inner.Singles.{SingleIs}
use Rattle.newmm_many_turn.specs.inner.Knowing.{seen_in}
use Rattle.newmm_many_turn.proofs.Known.{seen_view}
use Rattle.newmm_many_turn.proofs.Singles.{early_single, left_blank, single_by_view, cleared_single}
use Rattle.newmm_many_turn.proofs.answer_next.Goals as goal

pub returns-in_err-seen : goal.returns-in_err-seen
returns-in_err-seen c =
    record {
      single_is = subst (λ (told : Result Ends Refusal). SingleIs (singly c.args.wanted c.args.mode (seen_in c.args.view) c.args.text.now c.args.out.now c.args.scratch.now) told c.args.out.now c.args.scratch.now)
          (sym (handed_on c.from_residual.ensures.1))
          (early_single c.args.wanted c.args.mode c.args.text.now (seen_in c.args.view) c.args.out.now c.args.scratch.now c.in_err-seen.ensures.refused refl);
      blank = c.requires.blank;
    }

pub blank_all-requires : goal.blank_all-requires
blank_all-requires c = c.requires.blank

pub answer_ready-requires : goal.answer_ready-requires
answer_ready-requires c =
    let passed : Passes c.args.text.now (seen_in c.args.view) (length c.args.scratch.now) = passes _ _ _ c.in_ok-seen.ensures.seen.1 refl in
    let viewed : Viewed (seen_in c.args.view) c.in_ok-seen.seen.now = seen_view c.in_ok-seen.ensures.seen.0 c.requires.view in
    let seen : Sees c.args.text.now c.in_ok-seen.seen.now (length c.args.scratch.now) = sees viewed passed in
    (still_sees c.args.scratch.now c.blank_all.ensures seen, now_blank c.args.scratch.now c.blank_all.ensures)

pub returns : goal.returns
returns c =
    let passed : Passes c.args.text.now (seen_in c.args.view) (length c.args.scratch.now) = passes _ _ _ c.in_ok-seen.ensures.seen.1 refl in
    let viewed : Viewed (seen_in c.args.view) c.in_ok-seen.seen.now = seen_view c.in_ok-seen.ensures.seen.0 c.requires.view in
    let seen : Sees c.args.text.now c.in_ok-seen.seen.now (length c.args.scratch.now) = sees viewed passed in record {
      single_is = single_by_view c.args.wanted c.args.mode c.args.text.now c.args.out.now viewed
          c.args.scratch.now
          (cleared_single c.args.wanted c.args.mode c.args.out.now c.args.scratch.now
          c.blank_all.ensures seen c.answer_ready.ensures);
      blank = λ e. left_blank c.args.wanted
          c.args.mode c.args.text.now c.args.out.now c.blank_all.new.row
          (still_sees c.args.scratch.now c.blank_all.ensures seen) c.answer_ready.ensures;
    }
