use mathlib.Core.Path.{◌∙◌}
use Rattle.refusal.proofs.Causes.{handed_on}
use Rattle.trie_plants.specs.Meaning.{plant_meaning}
use Rattle.newmm_many_answers.specs.declared.Wanted.TheVariants as wants
use Rattle.newmm_many_answers.specs.Singles.{singly}
use Rattle.newmm_many_answers.specs.Calls.{many_call}
use Rattle.newmm_many.proofs.Turned.{answered_by, refused_many}
use Rattle.newmm_plants_many.proofs.cut_many_in.Goals as goal

pub returns-in_err-check_many : goal.returns-in_err-check_many
returns-in_err-check_many c =
    let e = handed_on c.from_residual.ensures.1 in
    refused_many (singly wants.Ends c.args.mode (plant_meaning c.args.plant c.args.pool.now))
    (many_call c.args.texts.now c.args.text_ends.now c.args.pool.now c.args.answers.now
    c.args.out.now c.args.scratch.now c.args.mode) (e ∙ c.in_err-check_many.ensures) e

pub returns : goal.returns
returns c =
    answered_by wants.Ends
    (many_call c.args.texts.now c.args.text_ends.now c.args.pool.now c.args.answers.now
    c.args.out.now c.args.scratch.now c.args.mode) c.dictionary_of.ensures.means c.answer_many.ensures
