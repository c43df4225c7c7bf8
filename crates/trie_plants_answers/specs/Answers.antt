-- What each plant call on a dictionary answers: the first refusal that applies, or the number that
-- it is accepted with.
use Rattle.std.specs.Prelude.{ℕ, List, length, Result}
use Rattle.refusal.specs.declared.Refusal.{Refusal}
use Rattle.refusal.specs.Answers.{answer}
use Rattle.char_string_trim.specs.Trimming.{trimmed_of}
use Rattle.trie_pool.specs.Meaning.{Words, Terms, with_term, without_term, report_term, prefix_lengths, amount}
use Rattle.trie_check.specs.Refusals.{held, held_terms, pool_causes, read_causes}
use Rattle.trie_char_answers.specs.Answers.{WordAnswer, told_term}
use Rattle.trie_char_answers.specs.Refusals.{prefix_causes, remove_causes}
use Rattle.trie_plants.specs.declared.Plant.{Plant}
use Rattle.trie_plants.specs.Halves.{half_of}
use Rattle.trie_plants.specs.Meaning.{plant_meaning, plant_terms}
use Rattle.trie_plants_answers.specs.Refusals.{plant_add_causes, start_causes}

-- Start: 8, 12.
abbrev pub start_answer : ℕ → ℕ → List ℕ → Result ℕ Refusal
start_answer limit_a limit_b pool = answer (start_causes limit_a limit_b pool) 0

-- the plant's own words, the same with their classes, and those that an accepted add or remove
-- leaves
abbrev pub own_words : Plant → List ℕ → Words
own_words plant pool = held (plant_meaning plant pool)

abbrev pub own_terms : Plant → List ℕ → Terms
own_terms plant pool = held_terms (plant_terms plant pool)

abbrev pub plant_added : Plant → List ℕ → ℕ → List ℕ → Terms
plant_added plant word class pool = with_term (trimmed_of word) class (own_terms plant pool)

abbrev pub plant_removed : Plant → List ℕ → List ℕ → Terms
plant_removed plant word pool = without_term (trimmed_of word) (own_terms plant pool)

-- Add, with a class: 2, 3, 4, 7, 8; accepted with 1 if the plant's words or their classes changed,
-- else 0.
abbrev pub plant_add_answer : Plant → List ℕ → ℕ → List ℕ → Result ℕ Refusal
plant_add_answer plant word class pool =
    answer (plant_add_causes plant word pool)
    (report_term (trimmed_of word) (own_terms plant pool) (plant_added plant word class pool))

-- Remove: 2, 3, 4, 7; the same.
abbrev pub plant_remove_answer : Plant → List ℕ → List ℕ → Result ℕ Refusal
plant_remove_answer plant word pool =
    answer (remove_causes word (plant_meaning plant pool))
    (report_term (trimmed_of word) (own_terms plant pool) (plant_removed plant word pool))

-- Contains: 2, 3, 4.
abbrev pub plant_contains_answer : Plant → List ℕ → List ℕ → WordAnswer
plant_contains_answer plant word pool =
    told_term (answer (read_causes word (plant_meaning plant pool)) (length word)) (own_terms plant pool word)

-- Prefix lengths: 2, 3, 4, 6; accepted with their number.
abbrev pub plant_prefixes : Plant → List ℕ → List ℕ → List ℕ
plant_prefixes plant text pool = prefix_lengths (own_words plant pool) text

abbrev pub plant_prefixes_answer : Plant → List ℕ → List ℕ → List ℕ → Result ℕ Refusal
plant_prefixes_answer plant text pool out =
    answer (prefix_causes text (plant_meaning plant pool) out) (length (plant_prefixes plant text pool))

-- Word count: 4.
abbrev pub plant_count_answer : Plant → List ℕ → Result ℕ Refusal
plant_count_answer plant pool = answer (pool_causes (plant_meaning plant pool)) (amount (half_of plant pool))
