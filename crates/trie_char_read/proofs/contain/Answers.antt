use mathlib.Core.Path.{sym, ◌∙◌}
use native.Mathlib.Omega.{arith}
use Rattle.std.proofs.lemmas.Result.{err_from_is_err_and}
use Rattle.trie_pool.specs.Meaning.{meaning}
use Rattle.trie_check.proofs.Parts.{long}
use Rattle.trie_char_answers.proofs.Reading.{view, contain_yes, contain_no, contain_small, contain_refused}
use Rattle.trie_char_read.proofs.contain.Goals as goal

pub returns-in_err-check : goal.returns-in_err-check
returns-in_err-check c =
    let p = err_from_is_err_and c.from_residual.result c.from_residual.ensures.1 in
    rw (p.1, p.2) (contain_refused (meaning c.args.pool.now) c.args.word.now c.check.ensures c.in_err-check.was _)

pub slice_bounds-mark_of-end : goal.slice_bounds-mark_of-end
slice_bounds-mark_of-end c = sym (long c.args.pool.now _ c.capacity-cells.ensures)

pub mark_of-mark-requires : goal.mark_of-mark-requires
mark_of-mark-requires c =
    (view c.args.pool.now c.args.word.now c.check.ensures c.in_ok-check.was _
    c.capacity-cells.ensures).readable

pub returns-then-mark-eq0 : goal.returns-then-mark-eq0
returns-then-mark-eq0 c =
    contain_no (view c.args.pool.now c.args.word.now c.check.ensures c.in_ok-check.was _
    c.capacity-cells.ensures) c.args.word.now c.check.ensures c.in_ok-check.was _
    c.mark_of-mark.ensures c.if-mark-eq0.true

pub returns : goal.returns
returns c =
    contain_yes (view c.args.pool.now c.args.word.now c.check.ensures c.in_ok-check.was _
    c.capacity-cells.ensures) c.args.word.now c.check.ensures c.in_ok-check.was _
    c.mark_of-mark.ensures c.if-mark-eq0.false

pub overflow_cast-result : goal.overflow_cast-result
overflow_cast-result c =
    let l = contain_small (view c.args.pool.now c.args.word.now c.check.ensures c.in_ok-check.was _
    c.capacity-cells.ensures) c.args.word.now c.check.ensures c.in_ok-check.was _ c.mark_of-mark.ensures in
    omega (arith, c.if-mark-eq0.false)
