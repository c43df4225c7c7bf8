use Rattle.std.specs.Prelude.{Result}
use Rattle.newmm_rules.specs.declared.Ends.{Ends}
use Rattle.refusal.specs.declared.Refusal.{Refusal}
use native.Mathlib.Omega.{arith}
use mathlib.Core.Path.{sym, ◌∙◌, ap}
use lib.Seq.{length-take-le}
use Rattle.figures_rules.specs.Outcomes.{of_refused}
use Rattle.figures.specs.inner.Counting.{figures_in}
use Rattle.figures.proofs.of_told.Goals as goal

pub slice_bounds-of_cut-end : goal.slice_bounds-of_cut-end
slice_bounds-of_cut-end c =
    sym (length-take-le c.in-Ok.cut.ends c.args.cells.now (c.requires.cut c.in-Ok.cut.ends c.in-Ok.cut.edges c.in-Ok.is).0)

pub of_cut-requires : goal.of_cut-requires
of_cut-requires c = (c.requires.cut c.in-Ok.cut.ends c.in-Ok.cut.edges c.in-Ok.is).1

pub of_refused-requires : goal.of_refused-requires
of_refused-requires c =
    let p = c.requires.refused _ c.in-Err.is in
    (omega (arith, p.0, c.number.ensures), omega (arith, p.1, c.number.ensures))

pub returns-in-Ok : goal.returns-in-Ok
returns-in-Ok c =
    c.of_cut.ensures ∙ sym
    (ap (λ (t : Result Ends Refusal). figures_in t c.args.characters c.args.cells.now) c.in-Ok.is)

pub returns-in-Err : goal.returns-in-Err
returns-in-Err c =
    c.of_refused.ensures ∙ ap of_refused c.number.ensures ∙ sym
    (ap (λ (t : Result Ends Refusal). figures_in t c.args.characters c.args.cells.now) c.in-Err.is)
