use mathlib.Core.Path.{sym, ◌∙◌}
use native.Mathlib.Omega.{arith}
use Rattle.std.proofs.lemmas.Result.{err_from_is_err_and}
use Rattle.trie_char_answers.proofs.Reading.{contain_yes, contain_no, contain_small, contain_refused}
use Rattle.trie_plants.specs.Meaning.{plant_meaning}
use Rattle.trie_plants.proofs.Parts.{half_low}
use Rattle.trie_plants_read.proofs.Views.{inside, view}
use Rattle.trie_plants_read.proofs.contain_in.Goals as goal

pub returns-in_err-check_plant : goal.returns-in_err-check_plant
returns-in_err-check_plant c =
    let p = err_from_is_err_and c.from_residual.result c.from_residual.ensures.1 in
    rw (p.1, p.2) (contain_refused (plant_meaning c.args.plant c.args.pool.now) c.args.word.now
    c.check_plant.ensures c.in_err-check_plant.was _)

pub offset_bounds-pool-at : goal.offset_bounds-pool-at
offset_bounds-pool-at c = omega (arith, c.half_at-at.ensures, half_low c.args.plant)

pub slice_bounds-mark_of-count : goal.slice_bounds-mark_of-count
slice_bounds-mark_of-count c =
    omega (
      arith,
      inside c.args.plant c.args.pool.now c.args.word.now c.check_plant.ensures
          c.in_ok-check_plant.was _ c.capacity-cells.ensures _ c.half_at-at.ensures,
    )

pub slice_bounds-mark_of-start : goal.slice_bounds-mark_of-start
slice_bounds-mark_of-start c =
    omega (
      arith,
      inside c.args.plant c.args.pool.now c.args.word.now c.check_plant.ensures
          c.in_ok-check_plant.was _ c.capacity-cells.ensures _ c.half_at-at.ensures,
    )

pub mark_of-mark-requires : goal.mark_of-mark-requires
mark_of-mark-requires c =
    (view c.args.plant c.args.pool.now c.args.word.now c.check_plant.ensures
    c.in_ok-check_plant.was _ c.capacity-cells.ensures _ c.half_at-at.ensures).readable

pub returns-then-mark-eq0 : goal.returns-then-mark-eq0
returns-then-mark-eq0 c =
    contain_no (view c.args.plant c.args.pool.now c.args.word.now c.check_plant.ensures
    c.in_ok-check_plant.was _ c.capacity-cells.ensures _ c.half_at-at.ensures) c.args.word.now
    c.check_plant.ensures c.in_ok-check_plant.was _ c.mark_of-mark.ensures
    c.if-mark-eq0.true

pub returns : goal.returns
returns c =
    contain_yes (view c.args.plant c.args.pool.now c.args.word.now c.check_plant.ensures
    c.in_ok-check_plant.was _ c.capacity-cells.ensures _ c.half_at-at.ensures) c.args.word.now
    c.check_plant.ensures c.in_ok-check_plant.was _ c.mark_of-mark.ensures
    c.if-mark-eq0.false

pub overflow_cast-result : goal.overflow_cast-result
overflow_cast-result c =
    let l = contain_small (view c.args.plant c.args.pool.now c.args.word.now c.check_plant.ensures
    c.in_ok-check_plant.was _ c.capacity-cells.ensures _ c.half_at-at.ensures) c.args.word.now
    c.check_plant.ensures c.in_ok-check_plant.was _ c.mark_of-mark.ensures in
    omega (arith, c.if-mark-eq0.false)
