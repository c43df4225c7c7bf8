use mathlib.Core.Path.{refl, sym, ◌∙◌}
use Rattle.std.proofs.lemmas.Result.{err_from_is_err_and}
use native.Mathlib.Omega.{arith}
use Rattle.trie_check.proofs.Parts.{inside, long, readable}
use Rattle.trie_char_answers.proofs.Changing.{known, used_there, used_fits, add_full, add_blank, add_same, puts, add_done, add_refused, untouched}
use Rattle.trie_char.proofs.add_class.Goals as goal

pub returns-in_err-check_word : goal.returns-in_err-check_word
returns-in_err-check_word c =
    let p = err_from_is_err_and c.from_residual.result c.from_residual.ensures.1 in
    let e = p.1 ∙ rw p.2 (sym c.in_err-check_word.was) in
    record {
      value = e ∙ add_refused c.args.pool.now c.args.word.now c.check_word.ensures
          c.in_err-check_word.was _;
      after = untouched c.args.pool.now c.args.word.now (e ∙ c.check_word.ensures)
          p.1 _;
    }

pub slice_bounds-missing-end : goal.slice_bounds-missing-end
slice_bounds-missing-end c = inside c.args.pool.now _ c.capacity-nodes.ensures

pub slice_bounds-missing-end-2 : goal.slice_bounds-missing-end-2
slice_bounds-missing-end-2 c = sym (long c.args.pool.now _ c.capacity-nodes.ensures)

pub missing-more-requires : goal.missing-more-requires
missing-more-requires c =
    readable c.args.pool.now _ c.capacity-nodes.ensures
    (known c.args.pool.now c.args.word.now c.check_word.ensures c.in_ok-check_word.was _
    c.capacity-nodes.ensures _ c.trimmed-w.ensures.result_value)

pub nodes_in_use-requires : goal.nodes_in_use-requires
nodes_in_use-requires c =
    used_there c.args.pool.now c.args.word.now c.check_word.ensures c.in_ok-check_word.was _
    c.capacity-nodes.ensures _ c.trimmed-w.ensures.result_value

pub overflow_sub-free : goal.overflow_sub-free
overflow_sub-free c =
    let f = used_fits c.args.pool.now c.args.word.now c.check_word.ensures
    c.in_ok-check_word.was _ c.capacity-nodes.ensures _ c.trimmed-w.ensures.result_value in
    omega (arith, f, c.nodes_in_use.ensures)

pub overflow_sub-short : goal.overflow_sub-short
overflow_sub-short c = omega (arith, c.if-free-more.true)

pub shape_of-pool-then-free-more : goal.shape_of-pool-then-free-more
shape_of-pool-then-free-more c = refl

pub returns-then-free-more : goal.returns-then-free-more
returns-then-free-more c =
    record {
      value = add_full c.args.pool.now c.args.word.now c.check_word.ensures c.in_ok-check_word.was _
          c.capacity-nodes.ensures _ c.trimmed-w.ensures.result_value c.args.class _ _ c.missing-more.ensures
          c.nodes_in_use.ensures _ c.if-free-more.true;
      after = refl;
    }

pub shape_of-pool-then-w-eq0 : goal.shape_of-pool-then-w-eq0
shape_of-pool-then-w-eq0 c = refl

pub returns-then-w-eq0 : goal.returns-then-w-eq0
returns-then-w-eq0 c =
    let both = add_blank c.args.pool.now c.args.word.now c.check_word.ensures c.in_ok-check_word.was _
    c.capacity-nodes.ensures _ c.trimmed-w.ensures.result_value c.args.class _ _ c.missing-more.ensures
    c.nodes_in_use.ensures c.if-free-more.false c.if-w-eq0.true in record { value = both.0; after = both.1 }

pub slice_bounds-mark_of-end : goal.slice_bounds-mark_of-end
slice_bounds-mark_of-end c = inside c.args.pool.now _ c.capacity-nodes.ensures

pub slice_bounds-mark_of-end-2 : goal.slice_bounds-mark_of-end-2
slice_bounds-mark_of-end-2 c = sym (long c.args.pool.now _ c.capacity-nodes.ensures)

pub mark_of-requires : goal.mark_of-requires
mark_of-requires c =
    readable c.args.pool.now _ c.capacity-nodes.ensures
    (known c.args.pool.now c.args.word.now c.check_word.ensures c.in_ok-check_word.was _
    c.capacity-nodes.ensures _ c.trimmed-w.ensures.result_value)

pub shape_of-pool-then-mark_of-mark : goal.shape_of-pool-then-mark_of-mark
shape_of-pool-then-mark_of-mark c = refl

pub returns-then-mark_of-mark : goal.returns-then-mark_of-mark
returns-then-mark_of-mark c =
    let both = add_same c.args.pool.now c.args.word.now c.check_word.ensures c.in_ok-check_word.was _
    c.capacity-nodes.ensures _ c.trimmed-w.ensures.result_value c.args.class _ _ c.missing-more.ensures
    c.nodes_in_use.ensures c.if-free-more.false c.if-w-eq0.false _ refl _ c.mark_of.ensures c.if-mark_of-mark.true in record { value = both.0; after = both.1 }

pub slice_bounds-add_word-end : goal.slice_bounds-add_word-end
slice_bounds-add_word-end c = inside c.args.pool.now _ c.capacity-nodes.ensures

pub slice_bounds-add_word-end-2 : goal.slice_bounds-add_word-end-2
slice_bounds-add_word-end-2 c = sym (long c.args.pool.now _ c.capacity-nodes.ensures)

pub add_word-requires : goal.add_word-requires
add_word-requires c =
    puts c.args.pool.now c.args.word.now c.check_word.ensures c.in_ok-check_word.was _
    c.capacity-nodes.ensures _ c.trimmed-w.ensures.result_value c.args.class _ _ c.missing-more.ensures
    c.nodes_in_use.ensures c.if-free-more.false c.if-w-eq0.false _ refl (omega arith)

pub returns : goal.returns
returns c =
    let both = add_done c.args.pool.now c.args.word.now c.check_word.ensures c.in_ok-check_word.was _
    c.capacity-nodes.ensures _ c.trimmed-w.ensures.result_value c.args.class _ _ c.missing-more.ensures
    c.nodes_in_use.ensures c.if-free-more.false c.if-w-eq0.false _ refl _ c.mark_of.ensures c.if-mark_of-mark.false _
    c.add_word.auto.p c.add_word.ensures in record { value = both.0; after = both.1 }
