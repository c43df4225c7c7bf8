use native.Mathlib.Omega.{arith}
use mathlib.Core.Path.{sym, ◌∙◌}
use Rattle.refusal.proofs.Causes.{handed_same, handed_on}
use Rattle.break_map_rules.specs.Maps.{cells_for, breaks_up_to}
use Rattle.break_map_rules.specs.Answers.{read_causes}
use Rattle.break_map.proofs.Checks.{asked, counted}
use Rattle.break_map.proofs.reading.breaks_up_to.Goals as goal

pub returns-in_err-check_read : goal.returns-in_err-check_read
returns-in_err-check_read c =
    let e = handed_on c.from_residual.ensures.1 in
    handed_same (read_causes c.args.n c.args.map.now c.args.position) (cells_for c.args.n)
    (breaks_up_to c.args.map.now c.args.position) (e ∙ c.in_err-check_read.ensures) e

pub count_up_to-requires : goal.count_up_to-requires
count_up_to-requires c =
    let a = asked c.args.n c.args.map.now c.args.position
    (sym c.in_ok-check_read.ensures) in
    (omega (arith, a.within, a.room), omega (arith, a.within, a.small))

pub returns : goal.returns
returns c =
    counted c.args.n c.args.map.now c.args.position
    (sym c.in_ok-check_read.ensures) _ c.count_up_to.ensures
