use Rattle.char_string_trim.proofs.Trimming.{start_inside, span_is, span_inside}
use borrow.Author.Rules.{rules}
use Rattle.char_string_trim.proofs.trim.Goals as goal

pub offset_bounds-word-start : goal.offset_bounds-word-start
offset_bounds-word-start c = let h = start_inside c.args.word.now in let e = c.trim_start-start.ensures in search rules

pub slice_bounds-kept-count : goal.slice_bounds-kept-count
slice_bounds-kept-count c = let h = start_inside c.args.word.now in let e = c.trim_start-start.ensures in search rules

pub slice_bounds-kept-start : goal.slice_bounds-kept-start
slice_bounds-kept-start c = let h = start_inside c.args.word.now in let e = c.trim_start-start.ensures in search rules

pub overflow_add-result : goal.overflow_add-result
overflow_add-result c =
    let h = span_inside c.args.word.now _ _ c.trim_start-start.ensures c.kept-left.ensures in
    search rules

pub returns : goal.returns
returns c = span_is _ _ _ c.trim_start-start.ensures c.kept-left.ensures
