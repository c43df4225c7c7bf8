-- WHAT A PLANT IS CHARGED (02, ticket 11): one for each distinct non-empty prefix of its own words,
-- shared or not. A comment that starts in capitals names a statement.
use Rattle.std.specs.Prelude.{ℕ, ◌+◌, ◌-◌, ◌≤◌, ◌<◌, ◌≡◌, true, List, length, Ok, Err}
use Rattle.refusal.specs.declared.Refusal.TheVariants.{TooFewNodes}
use Rattle.refusal.specs.Firsts.{None}
use Rattle.char_string_trim.specs.Trimming.{trimmed_of}
use Rattle.trie_pool.specs.Rules.{capacity}
use Rattle.trie_pool.specs.Meaning.{words_in, with_word, report_term}
use Rattle.trie_pool.specs.Listing.{Number, Prefix}
use Rattle.trie_char_answers.specs.Refusals.{remove_causes}
use Rattle.trie_plants.specs.declared.Plant.{Plant}
use Rattle.trie_plants.specs.declared.Plant.TheVariants.{A, B}
use Rattle.trie_plants.specs.Halves.{limit_of, charge_of}
use Rattle.trie_plants.specs.Rules.{is_plants}
use Rattle.trie_plants.specs.Meaning.{plant_meaning}
use Rattle.trie_plants_answers.specs.Refusals.{charge_with}
use Rattle.trie_plants_answers.specs.Answers.{own_words, own_terms, plant_added, plant_add_answer}
use Rattle.image_rules.specs.Records.{Term, Bytes}
use Rattle.image_rules.specs.Lists.{terms_in}
use Rattle.image_rules.specs.Reading.{list, read_of}
use Rattle.word_list_plants.specs.Answers.{plant_read_answer}

-- THE CHARGE counts the plant's own prefixes, whatever the other plant holds; and so does the
-- charge that it would have with a word added, which may be one that it holds or a blank.
abbrev pub ChargeIs : Type 0
ChargeIs =
    (plant : Plant) (pool : List ℕ)
    → is_plants pool ≡ true
    → Number (Prefix (own_words plant pool)) (charge_of plant pool)
    × ((word : List ℕ) → Number (Prefix (with_word word (own_words plant pool))) (charge_with plant pool word))

-- WITHIN LIMITS: no charge passes its limit, and the limits sum to at most capacity less one.
abbrev pub WithinLimits : Type 0
WithinLimits =
    (pool : List ℕ)
    → is_plants pool ≡ true
    → ((plant : Plant) → charge_of plant pool ≤ limit_of plant pool)
    × (limit_of A pool + limit_of B pool ≤ capacity pool - 1)

-- REFUSAL 8 IN AN ADD, where none of 2, 3, 4, 7 is due: exactly if the plant's own charge k, with
-- the word, would pass its limit; by how many.
abbrev pub AddIsCharged : Type 0
AddIsCharged =
    (plant : Plant) (word : List ℕ) (class : ℕ) (pool : List ℕ) (k : ℕ)
    → None (remove_causes word (plant_meaning plant pool))
    → Number (Prefix (with_word (trimmed_of word) (own_words plant pool))) k
    → (limit_of plant pool < k → plant_add_answer plant word class pool ≡ Err (TooFewNodes (k - limit_of plant pool)))
    × (k ≤ limit_of plant pool
    → plant_add_answer plant word class pool
    ≡ Ok (report_term (trimmed_of word) (own_terms plant pool) (plant_added plant word class pool)))

-- REFUSAL 8 IN A READING, where neither 4 nor 9 is due: exactly if the charge k of the image's
-- words would pass the plant's limit; by how many. What the plant held before does not count.
abbrev pub ReadIsCharged : Type 0
ReadIsCharged =
    (plant : Plant) (image pool : List ℕ) (ts : List Term) (k : ℕ)
    → is_plants pool ≡ true
    → Bytes image
    → read_of image ≡ list ts
    → Number (Prefix (words_in (terms_in ts))) k
    → (limit_of plant pool < k → plant_read_answer plant image pool ≡ Err (TooFewNodes (k - limit_of plant pool)))
    × (k ≤ limit_of plant pool → plant_read_answer plant image pool ≡ Ok (length ts))
