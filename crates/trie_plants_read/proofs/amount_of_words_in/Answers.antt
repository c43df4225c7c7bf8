use mathlib.Core.Path.{sym, ap, ◌∙◌}
use native.Mathlib.Omega.{arith}
use Rattle.trie_pool.specs.Meaning.{amount}
use Rattle.trie_char_answers.proofs.Reading.{amount_refused, counts, amount_is}
use Rattle.trie_plants.specs.Meaning.{plant_meaning}
use Rattle.trie_plants.proofs.Parts.{meaning_is_none, half_low, view_is, from, sound_view}
use Rattle.trie_plants_read.proofs.amount_of_words_in.Goals as goal

pub returns-then-not-is_plants : goal.returns-then-not-is_plants
returns-then-not-is_plants c =
    amount_refused (plant_meaning c.args.plant c.args.pool.now) _
    (meaning_is_none c.args.plant c.args.pool.now _
    (sym c.if-not-is_plants.true ∙ c.is_plants.ensures))

pub offset_bounds-pool-at : goal.offset_bounds-pool-at
offset_bounds-pool-at c = omega (arith, c.half_at-at.ensures, half_low c.args.plant)

pub slice_bounds-count_words-count : goal.slice_bounds-count_words-count
slice_bounds-count_words-count c =
    omega (
      arith,
      from c.args.plant c.args.pool.now _ c.capacity-cells.ensures _
          c.half_at-at.ensures (sym c.is_plants.ensures ∙ c.if-not-is_plants.false),
    )

pub slice_bounds-count_words-start : goal.slice_bounds-count_words-start
slice_bounds-count_words-start c =
    omega (
      arith,
      from c.args.plant c.args.pool.now _ c.capacity-cells.ensures _
          c.half_at-at.ensures (sym c.is_plants.ensures ∙ c.if-not-is_plants.false),
    )

pub count_words-requires : goal.count_words-requires
count_words-requires c =
    counts _ (sound_view c.args.plant c.args.pool.now _ c.capacity-cells.ensures _
    c.half_at-at.ensures (sym c.is_plants.ensures ∙ c.if-not-is_plants.false))

pub returns : goal.returns
returns c =
    amount_is (plant_meaning c.args.plant c.args.pool.now) _
    (meaning_is_none c.args.plant c.args.pool.now _ (sym c.if-not-is_plants.false ∙ c.is_plants.ensures))
    (c.count_words.ensures ∙ ap amount
    (view_is c.args.plant c.args.pool.now _ c.capacity-cells.ensures _ c.half_at-at.ensures))
