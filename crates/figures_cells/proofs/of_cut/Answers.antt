use native.Mathlib.Omega.{arith}
use Prim.Native.Nat.{ℕ}
use mathlib.Core.Path.{refl, sym, ◌∙◌, ap, subst}
use mathlib.Core.List.{List}
use lib.Seq.{take-length}
use Rattle.figures_rules.specs.Outcomes.{of_cut, Reasons}
use Rattle.figures_cells.specs.inner.Reasons.{reasons_in}
use Rattle.figures_cells.proofs.Counting.{counting_none, counting_small, counting_more, counting_all}
use Rattle.figures_cells.proofs.of_cut.Goals as goal

pub loop-c-init : goal.loop-c-init
loop-c-init c =
    counting_none _ _ _ _ refl refl refl (omega arith)
    (subst (λ (l : List ℕ). Reasons (reasons_in l)) (sym (take-length c.args.cells.now)) c.requires)

pub overflow_add-one : goal.overflow_add-one
overflow_add-one c =
    let g = c.items_fit in
    omega (arith, c.loop-c-test.true, counting_small c.loop-c.invariant c.loop-c-test.true refl)

pub loop-c-preserved : goal.loop-c-preserved
loop-c-preserved c = counting_more c.loop-c.invariant c.loop-c-test.true refl

pub returns : goal.returns
returns c =
    counting_all c.loop-c.invariant c.loop-c-test.false
    ∙ ap (λ (l : List ℕ). of_cut c.args.characters (reasons_in l) c.args.edges) (take-length c.args.cells.now)
