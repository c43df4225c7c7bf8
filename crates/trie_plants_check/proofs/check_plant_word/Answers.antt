use mathlib.Core.Path.{sym, ◌∙◌}
use native.Mathlib.Omega.{arith}
use Rattle.std.proofs.lemmas.Result.{err_from_is_err_and}
use Rattle.char_string_trim.proofs.Trimming.{fits, length_is}
use Rattle.trie_char_answers.proofs.LongWords.{word_read, word_long, word_short}
use Rattle.trie_plants.specs.Meaning.{plant_meaning}
use Rattle.trie_plants_check.proofs.check_plant_word.Goals as goal

pub returns-in_err-n : goal.returns-in_err-n
returns-in_err-n c =
    let p = err_from_is_err_and c.from_residual.result c.from_residual.ensures.1 in
    rw (p.1, p.2) (sym c.in_err-n.was ∙ word_read c.args.word.now (plant_meaning c.args.plant c.args.pool.now) c.check_plant.ensures c.in_err-n.was)

pub overflow_sub-kept : goal.overflow_sub-kept
overflow_sub-kept c =
    let f = fits c.args.word.now _ c.trim-span.ensures in
    omega (arith, f.order)

pub returns-then-kept-gt-MAX_WORD : goal.returns-then-kept-gt-MAX_WORD
returns-then-kept-gt-MAX_WORD c =
    word_long c.args.word.now (plant_meaning c.args.plant c.args.pool.now)
    c.check_plant.ensures _ c.in_ok-n.was (length_is c.args.word.now _ c.trim-span.ensures)
    c.if-kept-gt-MAX_WORD.true

pub returns : goal.returns
returns c =
    word_short c.args.word.now (plant_meaning c.args.plant c.args.pool.now)
    c.check_plant.ensures _ c.in_ok-n.was (length_is c.args.word.now _ c.trim-span.ensures)
    c.if-kept-gt-MAX_WORD.false
