use mathlib.Core.Path.{refl, sym, ◌∙◌}
use Rattle.std.proofs.lemmas.Result.{err_from_is_err_and}
use Rattle.trie_check.proofs.Parts.{inside, long, readable}
use Rattle.trie_char_answers.proofs.Changing.{known, remove_absent, removes, remove_done, remove_refused, untouched}
use Rattle.trie_char.proofs.remove.Goals as goal

pub returns-in_err-check_word : goal.returns-in_err-check_word
returns-in_err-check_word c =
    let p = err_from_is_err_and c.from_residual.result c.from_residual.ensures.1 in
    let e = p.1 ∙ rw p.2 (sym c.in_err-check_word.was) in
    record {
      value = e ∙ remove_refused c.args.pool.now c.args.word.now c.check_word.ensures
          c.in_err-check_word.was _;
      after = untouched c.args.pool.now c.args.word.now (e ∙ c.check_word.ensures)
          p.1 _;
    }

pub slice_bounds-mark_of-end : goal.slice_bounds-mark_of-end
slice_bounds-mark_of-end c = inside c.args.pool.now _ c.capacity-cells.ensures

pub slice_bounds-mark_of-end-2 : goal.slice_bounds-mark_of-end-2
slice_bounds-mark_of-end-2 c = sym (long c.args.pool.now _ c.capacity-cells.ensures)

pub mark_of-requires : goal.mark_of-requires
mark_of-requires c =
    readable c.args.pool.now _ c.capacity-cells.ensures
    (known c.args.pool.now c.args.word.now c.check_word.ensures c.in_ok-check_word.was _
    c.capacity-cells.ensures _ c.trimmed-w.ensures.result_value)

pub shape_of-pool-then-mark_of-eq0 : goal.shape_of-pool-then-mark_of-eq0
shape_of-pool-then-mark_of-eq0 c = refl

pub returns-then-mark_of-eq0 : goal.returns-then-mark_of-eq0
returns-then-mark_of-eq0 c =
    let both = remove_absent c.args.pool.now c.args.word.now c.check_word.ensures c.in_ok-check_word.was _
    c.capacity-cells.ensures _ c.trimmed-w.ensures.result_value _ c.mark_of.ensures c.if-mark_of-eq0.true in record { value = both.0; after = both.1 }

pub slice_bounds-remove_word-end : goal.slice_bounds-remove_word-end
slice_bounds-remove_word-end c = inside c.args.pool.now _ c.capacity-cells.ensures

pub slice_bounds-remove_word-end-2 : goal.slice_bounds-remove_word-end-2
slice_bounds-remove_word-end-2 c = sym (long c.args.pool.now _ c.capacity-cells.ensures)

pub remove_word-requires : goal.remove_word-requires
remove_word-requires c =
    removes c.args.pool.now c.args.word.now c.check_word.ensures c.in_ok-check_word.was _
    c.capacity-cells.ensures _ c.trimmed-w.ensures.result_value _ c.mark_of.ensures c.if-mark_of-eq0.false

pub returns : goal.returns
returns c =
    let both = remove_done c.args.pool.now c.args.word.now c.check_word.ensures c.in_ok-check_word.was _
    c.capacity-cells.ensures _ c.trimmed-w.ensures.result_value _ c.mark_of.ensures c.if-mark_of-eq0.false _
    c.remove_word.auto.p c.remove_word.ensures in record { value = both.0; after = both.1 }
