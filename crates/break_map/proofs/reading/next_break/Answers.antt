use native.Mathlib.Omega.{arith}
use mathlib.Core.Path.{sym, ◌∙◌}
use lib.Seq.{length-take-le}
use Rattle.refusal.proofs.Causes.{handed_on}
use Rattle.break_map.proofs.Checks.{asked, found, not_asked}
use Rattle.break_map.proofs.reading.next_break.Goals as goal

pub slice_bounds-first_from-end : goal.slice_bounds-first_from-end
slice_bounds-first_from-end c =
    let a = asked c.args.n c.args.map.now c.args.position (sym c.in_ok-used.ensures) in
    sym (length-take-le c.in_ok-used.used c.args.map.now (omega (arith, a.cells_used, a.room)))

pub overflow_add-position : goal.overflow_add-position
overflow_add-position c =
    let a = asked c.args.n c.args.map.now c.args.position (sym c.in_ok-used.ensures) in
    omega (arith, a.within, a.small)

pub first_from-requires : goal.first_from-requires
first_from-requires c =
    let a = asked c.args.n c.args.map.now c.args.position (sym c.in_ok-used.ensures) in
    let whole = length-take-le c.in_ok-used.used c.args.map.now (omega (arith, a.cells_used, a.room)) in
    omega (arith, whole, a.cells_used, a.small)

pub returns-in_err-used : goal.returns-in_err-used
returns-in_err-used c =
    handed_on c.from_residual.ensures.1 ∙ not_asked c.args.n c.args.map.now c.args.position (sym c.in_err-used.ensures)

pub returns : goal.returns
returns c =
    let a = asked c.args.n c.args.map.now c.args.position (sym c.in_ok-used.ensures) in
    let whole = length-take-le c.in_ok-used.used c.args.map.now (omega (arith, a.cells_used, a.room)) in
    found c.args.n c.args.map.now c.args.position (sym c.in_ok-used.ensures) _ _ whole c.first_from.ensures
