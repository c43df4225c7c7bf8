use mathlib.Core.Path.{sym, ap, ◌∙◌}
use Rattle.trie_pool.specs.Meaning.{meaning, amount}
use Rattle.trie_check.proofs.Parts.{meaning_is_none, cells_are, long, sound_part}
use Rattle.trie_char_answers.proofs.Reading.{amount_refused, counts, amount_is}
use Rattle.trie_char_read.proofs.amount_of_words.Goals as goal

pub returns-then-not-is_dictionary : goal.returns-then-not-is_dictionary
returns-then-not-is_dictionary c =
    amount_refused (meaning c.args.pool.now) _
    (meaning_is_none c.args.pool.now _ (sym c.if-not-is_dictionary.true ∙ c.is_dictionary.ensures))

pub slice_bounds-count_words-end : goal.slice_bounds-count_words-end
slice_bounds-count_words-end c = sym (long c.args.pool.now _ c.capacity-cells.ensures)

pub count_words-requires : goal.count_words-requires
count_words-requires c =
    counts _ (sound_part c.args.pool.now _ c.capacity-cells.ensures
    (sym c.is_dictionary.ensures ∙ c.if-not-is_dictionary.false))

pub returns : goal.returns
returns c =
    amount_is (meaning c.args.pool.now) _
    (meaning_is_none c.args.pool.now _ (sym c.if-not-is_dictionary.false ∙ c.is_dictionary.ensures))
    (c.count_words.ensures ∙ ap amount (cells_are c.args.pool.now _ c.capacity-cells.ensures))
