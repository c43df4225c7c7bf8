use mathlib.Core.Path.{sym, ◌∙◌}
use native.Mathlib.Omega.{arith}
use Rattle.std.proofs.lemmas.Result.{err_from_is_err_and}
use Rattle.trie_plants.proofs.Parts.{half_low, from, readable_view}
use Rattle.trie_plants_answers.proofs.Changing.{known, remove_absent, removes, remove_done, remove_refused, untouched}
use Rattle.trie_plants_change.proofs.remove_in.Goals as goal

pub returns-in_err-check_plant_word : goal.returns-in_err-check_plant_word
returns-in_err-check_plant_word c =
    let p = err_from_is_err_and c.from_residual.result c.from_residual.ensures.1 in
    let e = p.1 ∙ rw p.2 (sym c.in_err-check_plant_word.was) in
    record {
      value = e ∙ remove_refused c.args.plant c.args.pool.now c.args.word.now c.check_plant_word.ensures
          c.in_err-check_plant_word.was _;
      plant_after = untouched c.args.plant c.args.pool.now c.args.word.now
          (e ∙ c.check_plant_word.ensures) p.1 _;
    }

pub offset_bounds-pool-a : goal.offset_bounds-pool-a
offset_bounds-pool-a c = omega (arith, c.half_at-a.ensures, half_low c.args.plant)

pub slice_bounds-mark_of-count : goal.slice_bounds-mark_of-count
slice_bounds-mark_of-count c =
    let f = from c.args.plant c.args.pool.now _ c.capacity-cells.ensures _ c.half_at-a.ensures
    (known c.args.plant c.args.pool.now c.args.word.now c.check_plant_word.ensures
    c.in_ok-check_plant_word.was _ c.capacity-cells.ensures _ c.half_at-a.ensures _ c.trimmed-w.ensures.result_value) in
    omega (arith, f)

pub slice_bounds-mark_of-start : goal.slice_bounds-mark_of-start
slice_bounds-mark_of-start c =
    let f = from c.args.plant c.args.pool.now _ c.capacity-cells.ensures _ c.half_at-a.ensures
    (known c.args.plant c.args.pool.now c.args.word.now c.check_plant_word.ensures
    c.in_ok-check_plant_word.was _ c.capacity-cells.ensures _ c.half_at-a.ensures _ c.trimmed-w.ensures.result_value)
    in
    omega (arith, f)

pub mark_of-requires : goal.mark_of-requires
mark_of-requires c =
    readable_view c.args.plant c.args.pool.now _ c.capacity-cells.ensures _ c.half_at-a.ensures
    (known c.args.plant c.args.pool.now c.args.word.now c.check_plant_word.ensures
    c.in_ok-check_plant_word.was _ c.capacity-cells.ensures _ c.half_at-a.ensures _ c.trimmed-w.ensures.result_value)

pub returns-then-mark_of-eq0 : goal.returns-then-mark_of-eq0
returns-then-mark_of-eq0 c =
    let both = remove_absent c.args.plant c.args.pool.now c.args.word.now c.check_plant_word.ensures
    c.in_ok-check_plant_word.was _ c.capacity-cells.ensures _ c.half_at-a.ensures _ c.trimmed-w.ensures.result_value _
    c.mark_of.ensures c.if-mark_of-eq0.true in record { value = both.0; plant_after = both.1 }

pub offset_bounds-pool-a-2 : goal.offset_bounds-pool-a-2
offset_bounds-pool-a-2 c = omega (arith, c.half_at-a.ensures, half_low c.args.plant)

pub slice_bounds-remove_word-count : goal.slice_bounds-remove_word-count
slice_bounds-remove_word-count c =
    let f = from c.args.plant c.args.pool.now _ c.capacity-cells.ensures _ c.half_at-a.ensures
    (known c.args.plant c.args.pool.now c.args.word.now c.check_plant_word.ensures
    c.in_ok-check_plant_word.was _ c.capacity-cells.ensures _ c.half_at-a.ensures _ c.trimmed-w.ensures.result_value) in
    omega (arith, f)

pub slice_bounds-remove_word-start : goal.slice_bounds-remove_word-start
slice_bounds-remove_word-start c =
    let f = from c.args.plant c.args.pool.now _ c.capacity-cells.ensures _ c.half_at-a.ensures
    (known c.args.plant c.args.pool.now c.args.word.now c.check_plant_word.ensures
    c.in_ok-check_plant_word.was _ c.capacity-cells.ensures _ c.half_at-a.ensures _ c.trimmed-w.ensures.result_value) in
    omega (arith, f)

pub remove_word-requires : goal.remove_word-requires
remove_word-requires c =
    removes c.args.plant c.args.pool.now c.args.word.now c.check_plant_word.ensures
    c.in_ok-check_plant_word.was _ c.capacity-cells.ensures _ c.half_at-a.ensures _ c.trimmed-w.ensures.result_value _
    c.mark_of.ensures c.if-mark_of-eq0.false

pub returns : goal.returns
returns c =
    let both = remove_done c.args.plant c.args.pool.now c.args.word.now c.check_plant_word.ensures
    c.in_ok-check_plant_word.was _ c.capacity-cells.ensures _ c.half_at-a.ensures _ c.trimmed-w.ensures.result_value _
    c.mark_of.ensures c.if-mark_of-eq0.false _ c.remove_word.auto.p c.remove_word.ensures in record { value = both.0; plant_after = both.1 }
