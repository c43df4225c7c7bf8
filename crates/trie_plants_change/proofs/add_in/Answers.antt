use native.Mathlib.Omega.{arith}
use Rattle.std.proofs.lemmas.Result.{err_from_is_err_and}
use mathlib.Core.Path.{refl, sym, ◌∙◌}
use Rattle.trie_plants.proofs.Parts.{half_low, from, readable_view}
use Rattle.trie_plants_answers.proofs.Changing.{known, long_view, used_fits, add_full, add_blank, add_same, puts, add_done, add_refused, untouched}
use Rattle.trie_plants_change.proofs.add_in.Goals as goal

pub returns-in_err-check_plant_word : goal.returns-in_err-check_plant_word
returns-in_err-check_plant_word c =
    let p = err_from_is_err_and c.from_residual.result c.from_residual.ensures.1 in
    let e = p.1 ∙ rw p.2 (sym c.in_err-check_plant_word.was) in
    record {
      value = e ∙ add_refused c.args.plant c.args.pool.now c.args.word.now c.check_plant_word.ensures
          c.in_err-check_plant_word.was _;
      plant_after = untouched c.args.plant c.args.pool.now c.args.word.now
          (e ∙ c.check_plant_word.ensures) p.1 _;
    }

pub offset_bounds-pool-a : goal.offset_bounds-pool-a
offset_bounds-pool-a c = omega (arith, c.half_at-a.ensures, half_low c.args.plant)

pub slice_bounds-missing-count : goal.slice_bounds-missing-count
slice_bounds-missing-count c =
    let f = from c.args.plant c.args.pool.now _ c.capacity-cells.ensures _ c.half_at-a.ensures
    (known c.args.plant c.args.pool.now c.args.word.now c.check_plant_word.ensures
    c.in_ok-check_plant_word.was _ c.capacity-cells.ensures _ c.half_at-a.ensures _ c.trimmed-w.ensures.result_value) in
    omega (arith, f)

pub slice_bounds-missing-start : goal.slice_bounds-missing-start
slice_bounds-missing-start c =
    let f = from c.args.plant c.args.pool.now _ c.capacity-cells.ensures _ c.half_at-a.ensures
    (known c.args.plant c.args.pool.now c.args.word.now c.check_plant_word.ensures
    c.in_ok-check_plant_word.was _ c.capacity-cells.ensures _ c.half_at-a.ensures _ c.trimmed-w.ensures.result_value)
    in
    omega (arith, f)

pub missing-more-requires : goal.missing-more-requires
missing-more-requires c =
    readable_view c.args.plant c.args.pool.now _ c.capacity-cells.ensures _ c.half_at-a.ensures
    (known c.args.plant c.args.pool.now c.args.word.now c.check_plant_word.ensures
    c.in_ok-check_plant_word.was _ c.capacity-cells.ensures _ c.half_at-a.ensures _ c.trimmed-w.ensures.result_value)

pub offset_bounds-pool-a-2 : goal.offset_bounds-pool-a-2
offset_bounds-pool-a-2 c = omega (arith, c.half_at-a.ensures, half_low c.args.plant)

pub slice_bounds-free_nodes-count : goal.slice_bounds-free_nodes-count
slice_bounds-free_nodes-count c =
    let f = from c.args.plant c.args.pool.now _ c.capacity-cells.ensures _ c.half_at-a.ensures
    (known c.args.plant c.args.pool.now c.args.word.now c.check_plant_word.ensures
    c.in_ok-check_plant_word.was _ c.capacity-cells.ensures _ c.half_at-a.ensures _ c.trimmed-w.ensures.result_value) in
    omega (arith, f)

pub slice_bounds-free_nodes-start : goal.slice_bounds-free_nodes-start
slice_bounds-free_nodes-start c =
    let f = from c.args.plant c.args.pool.now _ c.capacity-cells.ensures _ c.half_at-a.ensures
    (known c.args.plant c.args.pool.now c.args.word.now c.check_plant_word.ensures
    c.in_ok-check_plant_word.was _ c.capacity-cells.ensures _ c.half_at-a.ensures _ c.trimmed-w.ensures.result_value) in
    omega (arith, f)

pub free_nodes-free-requires : goal.free_nodes-free-requires
free_nodes-free-requires c = (
  long_view c.args.plant c.args.pool.now c.args.word.now c.check_plant_word.ensures
      c.in_ok-check_plant_word.was _ c.capacity-cells.ensures _ c.half_at-a.ensures _
      c.trimmed-w.ensures.result_value,
  used_fits c.args.plant c.args.pool.now c.args.word.now
      c.check_plant_word.ensures c.in_ok-check_plant_word.was _ c.capacity-cells.ensures _ c.half_at-a.ensures _
      c.trimmed-w.ensures.result_value,
)

pub overflow_sub-over : goal.overflow_sub-over
overflow_sub-over c = omega (arith, c.if-free-more.true)

pub returns-then-free-more : goal.returns-then-free-more
returns-then-free-more c =
    record {
      value = add_full c.args.plant c.args.pool.now c.args.word.now c.check_plant_word.ensures
          c.in_ok-check_plant_word.was _ c.capacity-cells.ensures _ c.half_at-a.ensures _ c.trimmed-w.ensures.result_value
          c.args.class _ _ c.missing-more.ensures c.free_nodes-free.ensures _ c.if-free-more.true;
      plant_after = refl;
    }

pub returns-then-w-eq0 : goal.returns-then-w-eq0
returns-then-w-eq0 c =
    let both = add_blank c.args.plant c.args.pool.now c.args.word.now c.check_plant_word.ensures
    c.in_ok-check_plant_word.was _ c.capacity-cells.ensures _ c.half_at-a.ensures _ c.trimmed-w.ensures.result_value
    c.args.class _ _ c.missing-more.ensures c.free_nodes-free.ensures c.if-free-more.false c.if-w-eq0.true in record { value = both.0; plant_after = both.1 }

pub offset_bounds-pool-a-3 : goal.offset_bounds-pool-a-3
offset_bounds-pool-a-3 c = omega (arith, c.half_at-a.ensures, half_low c.args.plant)

pub slice_bounds-mark_of-count : goal.slice_bounds-mark_of-count
slice_bounds-mark_of-count c =
    let f = from c.args.plant c.args.pool.now _ c.capacity-cells.ensures _ c.half_at-a.ensures
    (known c.args.plant c.args.pool.now c.args.word.now c.check_plant_word.ensures
    c.in_ok-check_plant_word.was _ c.capacity-cells.ensures _ c.half_at-a.ensures _ c.trimmed-w.ensures.result_value) in
    omega (arith, f)

pub slice_bounds-mark_of-start : goal.slice_bounds-mark_of-start
slice_bounds-mark_of-start c =
    let f = from c.args.plant c.args.pool.now _ c.capacity-cells.ensures _ c.half_at-a.ensures
    (known c.args.plant c.args.pool.now c.args.word.now c.check_plant_word.ensures
    c.in_ok-check_plant_word.was _ c.capacity-cells.ensures _ c.half_at-a.ensures _ c.trimmed-w.ensures.result_value) in
    omega (arith, f)

pub mark_of-requires : goal.mark_of-requires
mark_of-requires c =
    readable_view c.args.plant c.args.pool.now _ c.capacity-cells.ensures _ c.half_at-a.ensures
    (known c.args.plant c.args.pool.now c.args.word.now c.check_plant_word.ensures
    c.in_ok-check_plant_word.was _ c.capacity-cells.ensures _ c.half_at-a.ensures _ c.trimmed-w.ensures.result_value)

pub returns-then-mark_of-mark : goal.returns-then-mark_of-mark
returns-then-mark_of-mark c =
    let both = add_same c.args.plant c.args.pool.now c.args.word.now c.check_plant_word.ensures
    c.in_ok-check_plant_word.was _ c.capacity-cells.ensures _ c.half_at-a.ensures _ c.trimmed-w.ensures.result_value
    c.args.class _ _ c.missing-more.ensures c.free_nodes-free.ensures c.if-free-more.false c.if-w-eq0.false _ refl _
    c.mark_of.ensures c.if-mark_of-mark.true in record { value = both.0; plant_after = both.1 }

pub offset_bounds-pool-a-4 : goal.offset_bounds-pool-a-4
offset_bounds-pool-a-4 c = omega (arith, c.half_at-a.ensures, half_low c.args.plant)

pub slice_bounds-add_word-count : goal.slice_bounds-add_word-count
slice_bounds-add_word-count c =
    let f = from c.args.plant c.args.pool.now _ c.capacity-cells.ensures _ c.half_at-a.ensures
    (known c.args.plant c.args.pool.now c.args.word.now c.check_plant_word.ensures
    c.in_ok-check_plant_word.was _ c.capacity-cells.ensures _ c.half_at-a.ensures _ c.trimmed-w.ensures.result_value) in
    omega (arith, f)

pub slice_bounds-add_word-start : goal.slice_bounds-add_word-start
slice_bounds-add_word-start c =
    let f = from c.args.plant c.args.pool.now _ c.capacity-cells.ensures _ c.half_at-a.ensures
    (known c.args.plant c.args.pool.now c.args.word.now c.check_plant_word.ensures
    c.in_ok-check_plant_word.was _ c.capacity-cells.ensures _ c.half_at-a.ensures _ c.trimmed-w.ensures.result_value) in
    omega (arith, f)

pub add_word-requires : goal.add_word-requires
add_word-requires c =
    puts c.args.plant c.args.pool.now c.args.word.now c.check_plant_word.ensures
    c.in_ok-check_plant_word.was _ c.capacity-cells.ensures _ c.half_at-a.ensures _ c.trimmed-w.ensures.result_value
    c.args.class _ _ c.missing-more.ensures c.free_nodes-free.ensures c.if-free-more.false c.if-w-eq0.false _ refl
    (omega arith)

pub returns : goal.returns
returns c =
    let both = add_done c.args.plant c.args.pool.now c.args.word.now c.check_plant_word.ensures
    c.in_ok-check_plant_word.was _ c.capacity-cells.ensures _ c.half_at-a.ensures _ c.trimmed-w.ensures.result_value
    c.args.class _ _ c.missing-more.ensures c.free_nodes-free.ensures c.if-free-more.false c.if-w-eq0.false _ refl _
    c.mark_of.ensures c.if-mark_of-mark.false _ c.add_word.auto.p c.add_word.ensures in record { value = both.0; plant_after = both.1 }
