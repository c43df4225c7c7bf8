use mathlib.Core.Path.{refl, sym, ◌∙◌}
use Rattle.std.proofs.lemmas.Result.{err_from_is_err_and}
use native.Mathlib.Omega.{arith}
use Rattle.refusal.proofs.Causes.{no_output}
use Rattle.trie_char_answers.proofs.Reading.{asks, prefix_short, prefix_done, prefix_refused}
use Rattle.trie_plants.specs.Meaning.{plant_meaning}
use Rattle.trie_plants.proofs.Parts.{half_low}
use Rattle.trie_plants_read.proofs.Views.{inside, view}
use Rattle.trie_plants_read.proofs.prefix_lengths_in.Goals as goal

pub returns-in_err-check_plant : goal.returns-in_err-check_plant
returns-in_err-check_plant c =
    let p = err_from_is_err_and c.from_residual.result c.from_residual.ensures.1 in
    let e = p.1 ∙ rw p.2 (sym c.in_err-check_plant.was) in
    record {
      value = e ∙ prefix_refused (plant_meaning c.args.plant c.args.pool.now) c.args.text.now
          c.check_plant.ensures c.in_err-check_plant.was c.args.out.now _;
      out_after = no_output _ _ p.1;
    }

pub offset_bounds-pool-at : goal.offset_bounds-pool-at
offset_bounds-pool-at c = omega (arith, c.half_at-at.ensures, half_low c.args.plant)

pub slice_bounds-prefix_count-count : goal.slice_bounds-prefix_count-count
slice_bounds-prefix_count-count c =
    omega (
      arith,
      inside c.args.plant c.args.pool.now c.args.text.now c.check_plant.ensures
          c.in_ok-check_plant.was _ c.capacity-cells.ensures _ c.half_at-at.ensures,
    )

pub slice_bounds-prefix_count-start : goal.slice_bounds-prefix_count-start
slice_bounds-prefix_count-start c =
    omega (
      arith,
      inside c.args.plant c.args.pool.now c.args.text.now c.check_plant.ensures
          c.in_ok-check_plant.was _ c.capacity-cells.ensures _ c.half_at-at.ensures,
    )

pub prefix_count-needed-requires : goal.prefix_count-needed-requires
prefix_count-needed-requires c =
    (view c.args.plant c.args.pool.now c.args.text.now c.check_plant.ensures
    c.in_ok-check_plant.was _ c.capacity-cells.ensures _ c.half_at-at.ensures).readable

pub returns-then-out-needed : goal.returns-then-out-needed
returns-then-out-needed c =
    record {
      value = prefix_short (view c.args.plant c.args.pool.now c.args.text.now c.check_plant.ensures
          c.in_ok-check_plant.was _ c.capacity-cells.ensures _ c.half_at-at.ensures) c.args.text.now
          c.check_plant.ensures c.in_ok-check_plant.was c.args.out.now _ c.prefix_count-needed.ensures _
          c.if-out-needed.true;
      out_after = refl;
    }

pub offset_bounds-pool-at-2 : goal.offset_bounds-pool-at-2
offset_bounds-pool-at-2 c = omega (arith, c.half_at-at.ensures, half_low c.args.plant)

pub slice_bounds-prefix_lengths-count : goal.slice_bounds-prefix_lengths-count
slice_bounds-prefix_lengths-count c =
    omega (
      arith,
      inside c.args.plant c.args.pool.now c.args.text.now c.check_plant.ensures
          c.in_ok-check_plant.was _ c.capacity-cells.ensures _ c.half_at-at.ensures,
    )

pub slice_bounds-prefix_lengths-start : goal.slice_bounds-prefix_lengths-start
slice_bounds-prefix_lengths-start c =
    omega (
      arith,
      inside c.args.plant c.args.pool.now c.args.text.now c.check_plant.ensures
          c.in_ok-check_plant.was _ c.capacity-cells.ensures _ c.half_at-at.ensures,
    )

pub prefix_lengths-written-requires : goal.prefix_lengths-written-requires
prefix_lengths-written-requires c =
    asks (view c.args.plant c.args.pool.now c.args.text.now c.check_plant.ensures
    c.in_ok-check_plant.was _ c.capacity-cells.ensures _ c.half_at-at.ensures) c.args.text.now
    c.check_plant.ensures c.in_ok-check_plant.was c.args.out.now _ c.prefix_count-needed.ensures
    c.if-out-needed.false

pub returns : goal.returns
returns c =
    let both = prefix_done (view c.args.plant c.args.pool.now c.args.text.now c.check_plant.ensures
    c.in_ok-check_plant.was _ c.capacity-cells.ensures _ c.half_at-at.ensures) c.args.text.now
    c.check_plant.ensures c.in_ok-check_plant.was c.args.out.now _ c.prefix_count-needed.ensures
    c.if-out-needed.false _ _ c.prefix_lengths-written.ensures in record { value = both.0; out_after = both.1 }
