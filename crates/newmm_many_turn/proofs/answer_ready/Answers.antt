use Rattle.newmm_answers.specs.inner.Passing.{in_view}
use Rattle.newmm_many_answers.specs.declared.Wanted.TheVariants as wants
use Rattle.newmm_many_turn.proofs.Singles.{as_wanted}
use Rattle.newmm_many_turn.proofs.answer_ready.Goals as goal

pub returns-in-Ends : goal.returns-in-Ends
returns-in-Ends c =
    as_wanted c.args.mode (in_view c.args.view.now) c.args.text.now c.args.out.now
    c.args.scratch.now wants.Ends c.in-Ends.is c.cut_ready.ensures

pub returns-in-Pairs : goal.returns-in-Pairs
returns-in-Pairs c =
    as_wanted c.args.mode (in_view c.args.view.now) c.args.text.now c.args.out.now
    c.args.scratch.now wants.Pairs c.in-Pairs.is c.pairs_ready.ensures
