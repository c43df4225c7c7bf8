use Prim.Native.Nat.{◌-◌, ◌*◌, ◌≤◌}
use native.Mathlib.Omega.{arith}
use lib.ListN.{length, take, drop}
use Rattle.trie_plants.specs.Meaning.{plant_meaning}
use Rattle.trie_plants.proofs.Parts.{half_low}
use Rattle.newmm_answers.specs.inner.Passing.{Passes}
use Rattle.newmm_answers.proofs.Checks.{passes, known}
use Rattle.newmm_answers.proofs.Views.{Viewed, sees}
use Rattle.refusal.proofs.Causes.{handed_on}
use Rattle.newmm_told.proofs.Calls.{early_tells, told_by_view}
use Rattle.newmm_plants.proofs.Views.{plant_view, view_from}
use Rattle.newmm_plants_reasons.proofs.tell_in.Goals as goal

pub offset_bounds-pool-a : goal.offset_bounds-pool-a
offset_bounds-pool-a c = omega (arith, c.half_at-a.ensures, half_low c.args.plant)

pub slice_bounds-tell_checked-count : goal.slice_bounds-tell_checked-count
slice_bounds-tell_checked-count c =
    let passed : Passes c.args.text.now (plant_meaning c.args.plant c.args.pool.now) (length c.args.scratch.now) = passes c.args.text.now _ _ c.check_plant_cut.ensures c.in_ok-check_plant_cut.was in
    let starts : c.half_at-a.result ≤ 8 * c.capacity-cells.result = view_from _ _ _ c.capacity-cells.ensures _ c.half_at-a.ensures (known passed) in
    omega (arith, starts)

pub slice_bounds-tell_checked-start : goal.slice_bounds-tell_checked-start
slice_bounds-tell_checked-start c =
    let passed : Passes c.args.text.now (plant_meaning c.args.plant c.args.pool.now) (length c.args.scratch.now) = passes c.args.text.now _ _ c.check_plant_cut.ensures c.in_ok-check_plant_cut.was in
    let starts : c.half_at-a.result ≤ 8 * c.capacity-cells.result = view_from _ _ _ c.capacity-cells.ensures _ c.half_at-a.ensures (known passed) in
    omega (arith, starts)

pub tell_checked-requires : goal.tell_checked-requires
tell_checked-requires c =
    let passed : Passes c.args.text.now (plant_meaning c.args.plant c.args.pool.now) (length c.args.scratch.now) = passes c.args.text.now _ _ c.check_plant_cut.ensures c.in_ok-check_plant_cut.was in
    let viewed : Viewed (plant_meaning c.args.plant c.args.pool.now) (take (8 * c.capacity-cells.result - c.half_at-a.result) (drop c.half_at-a.result c.args.pool.now)) = plant_view _ _ _ c.capacity-cells.ensures _ c.half_at-a.ensures (known passed) in
    sees viewed passed

pub returns-in_err-check_plant_cut : goal.returns-in_err-check_plant_cut
returns-in_err-check_plant_cut c =
    early_tells c.args.mode c.args.text.now (plant_meaning c.args.plant c.args.pool.now)
    c.args.scratch.now c.args.room c.in_err-check_plant_cut.ensures (handed_on c.from_residual.ensures.1)

pub returns : goal.returns
returns c =
    let passed : Passes c.args.text.now (plant_meaning c.args.plant c.args.pool.now) (length c.args.scratch.now) = passes c.args.text.now _ _ c.check_plant_cut.ensures c.in_ok-check_plant_cut.was in
    let viewed : Viewed (plant_meaning c.args.plant c.args.pool.now) (take (8 * c.capacity-cells.result - c.half_at-a.result) (drop c.half_at-a.result c.args.pool.now)) = plant_view _ _ _ c.capacity-cells.ensures _ c.half_at-a.ensures (known passed) in
    told_by_view viewed c.args.text.now c.args.scratch.now c.args.room c.args.mode
    c.tell_checked.ensures
