use Prim.Native.Nat.{◌-◌, ◌*◌, ◌≤◌}
use native.Mathlib.Omega.{arith}
use mathlib.Core.Path.{refl, sym, subst}
use lib.ListN.{length, take, drop}
use Rattle.std.specs.Prelude.{Result}
use Rattle.newmm_rules.specs.declared.Ends.{Ends}
use Rattle.refusal.specs.declared.Refusal.{Refusal}
use Rattle.refusal.proofs.Causes.{handed_on}
use Rattle.trie_plants.specs.Meaning.{plant_meaning}
use Rattle.trie_plants.proofs.Parts.{half_low}
use Rattle.newmm_answers.specs.inner.Passing.{Passes, CutsBy}
use Rattle.newmm_answers.proofs.Checks.{passes, known}
use Rattle.newmm_answers.proofs.Views.{Viewed, sees, by_view}
use Rattle.newmm.proofs.Calls.{early_cuts}
use Rattle.newmm_plants.proofs.Views.{plant_view, view_from}
use Rattle.newmm_plants.proofs.cut_in.Goals as goal

pub offset_bounds-pool-a : goal.offset_bounds-pool-a
offset_bounds-pool-a c = omega (arith, c.half_at-a.ensures, half_low c.args.plant)

pub slice_bounds-cut_checked-count : goal.slice_bounds-cut_checked-count
slice_bounds-cut_checked-count c =
    let passed : Passes c.args.text.now (plant_meaning c.args.plant c.args.pool.now) (length c.args.scratch.now) = passes c.args.text.now _ _ c.check_plant_cut.ensures c.in_ok-check_plant_cut.was in
    let starts : c.half_at-a.result ≤ 8 * c.capacity-cells.result = view_from _ _ _ c.capacity-cells.ensures _ c.half_at-a.ensures (known passed) in
    omega (arith, starts)

pub slice_bounds-cut_checked-start : goal.slice_bounds-cut_checked-start
slice_bounds-cut_checked-start c =
    let passed : Passes c.args.text.now (plant_meaning c.args.plant c.args.pool.now) (length c.args.scratch.now) = passes c.args.text.now _ _ c.check_plant_cut.ensures c.in_ok-check_plant_cut.was in
    let starts : c.half_at-a.result ≤ 8 * c.capacity-cells.result = view_from _ _ _ c.capacity-cells.ensures _ c.half_at-a.ensures (known passed) in
    omega (arith, starts)

pub cut_checked-requires : goal.cut_checked-requires
cut_checked-requires c =
    let passed : Passes c.args.text.now (plant_meaning c.args.plant c.args.pool.now) (length c.args.scratch.now) = passes c.args.text.now _ _ c.check_plant_cut.ensures c.in_ok-check_plant_cut.was in
    let viewed : Viewed (plant_meaning c.args.plant c.args.pool.now) (take (8 * c.capacity-cells.result - c.half_at-a.result) (drop c.half_at-a.result c.args.pool.now)) = plant_view _ _ _ c.capacity-cells.ensures _ c.half_at-a.ensures (known passed) in
    sees viewed passed

pub returns-in_err-check_plant_cut : goal.returns-in_err-check_plant_cut
returns-in_err-check_plant_cut c =
    subst (λ (told : Result Ends Refusal). CutsBy (plant_meaning c.args.plant c.args.pool.now) c.args.text.now c.args.out.now c.args.scratch.now c.args.mode told c.args.out.now c.args.scratch.now)
    (sym (handed_on c.from_residual.ensures.1))
    (early_cuts c.args.mode c.args.text.now (plant_meaning c.args.plant c.args.pool.now)
    c.args.scratch.now c.in_err-check_plant_cut.ensures c.args.out.now refl)

pub returns : goal.returns
returns c =
    let passed : Passes c.args.text.now (plant_meaning c.args.plant c.args.pool.now) (length c.args.scratch.now) = passes c.args.text.now _ _ c.check_plant_cut.ensures c.in_ok-check_plant_cut.was in
    let viewed : Viewed (plant_meaning c.args.plant c.args.pool.now) (take (8 * c.capacity-cells.result - c.half_at-a.result) (drop c.half_at-a.result c.args.pool.now)) = plant_view _ _ _ c.capacity-cells.ensures _ c.half_at-a.ensures (known passed) in
    by_view viewed c.args.text.now c.args.out.now c.args.scratch.now c.args.mode
    c.cut_checked.ensures
