use Prim.Native.Nat.{min}
use mathlib.Core.Path.{refl, ◌∙◌}
use lib.ListN.{length}
use Rattle.refusal.proofs.Causes.{handed_on, no_output}
use Rattle.tcc.proofs.Deciding.{refused}
use Rattle.tcc_engine.specs.inner.Trying.{part, ungrouped, tried_at}
use Rattle.tcc_tables.proofs.Putting.{passed}
use Rattle.tcc_tables.proofs.tcc_winners.Goals as goal

pub returns-in_err-check_text : goal.returns-in_err-check_text
returns-in_err-check_text c =
    let e = handed_on c.from_residual.ensures.1 in (
      refused c.args.text.now (min (length c.args.ends.now) (length c.args.winners.now)) (e ∙ c.in_err-check_text.ensures) e,
      (no_output _ _ e, no_output _ _ e),
    )

-- THE TABLES' RULE, computed: read back, they are the alternatives.
pub invariant_of-engine : goal.invariant_of-engine
unfolding part ungrouped tried_at
invariant_of-engine c = record { right = record { right = refl; tried = refl; classed = record { many = refl; all = tt }; ends = refl; rising = tt } }

pub told_by-requires : goal.told_by-requires
told_by-requires c = record { text_value = passed c.args.text.now c.check_text.ensures c.in_ok-check_text.was }

pub returns : goal.returns
returns c = c.told_by.ensures
