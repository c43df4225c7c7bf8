use mathlib.Core.Path.{refl, sym, ◌∙◌}
use mathlib.Core.List.{[]}
use lib.ListN.{length}
use Rattle.refusal.proofs.Causes.{handed_on}
use Rattle.newmm_many_answers.specs.Singles.{singly}
use Rattle.newmm_many_answers.specs.Calls.{many_call}
use Rattle.newmm_many_answers.proofs.TextEnds.{whole_of}
use Rattle.newmm_many_turn.specs.inner.Knowing.{seen_in}
use Rattle.newmm_many.proofs.Turned.{refused_many, accepted_many}
use Rattle.newmm_many.proofs.answer_many.Goals as goal

pub returns-in_err-n : goal.returns-in_err-n
returns-in_err-n c =
    let e = handed_on c.from_residual.ensures.1 in
    refused_many (singly c.args.wanted c.args.mode (seen_in c.args.view))
    (many_call c.args.texts.now c.args.text_ends.now [] c.args.answers.now
    c.args.out.now c.args.scratch.now c.args.mode) (e ∙ c.in_err-n.ensures) e

pub answer_texts-requires : goal.answer_texts-requires
answer_texts-requires c =
    record {
      whole = whole_of (length c.args.texts.now) c.args.text_ends.now (length c.args.answers.now)
          (length c.args.text_ends.now) (sym c.in_ok-n.ensures);
      view = c.requires;
    }

pub returns : goal.returns
returns c =
    accepted_many (singly c.args.wanted c.args.mode (seen_in c.args.view))
    (many_call c.args.texts.now c.args.text_ends.now [] c.args.answers.now
    c.args.out.now c.args.scratch.now c.args.mode) c.in_ok-n.ensures refl c.answer_texts.ensures
