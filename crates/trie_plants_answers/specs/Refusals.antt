-- The refusals of plant calls, in the order of 01 and 02. Where a plain call's causes speak of the
-- pool by its meaning, those of the plant call are the same of the plant's own: contains, prefix
-- lengths, word count and remove have no others.
use Rattle.std.specs.Prelude.{ℕ, ◌+◌, ◌-◌, List, [], ◌∷◌, ◌++◌, ltb}
use Rattle.refusal.specs.Answers.{Cause}
use Rattle.refusal.specs.declared.Refusal.TheVariants.{TooFewNodes, LimitsTooLarge}
use Rattle.char_string_trim.specs.Trimming.{trimmed_of}
use Rattle.trie_pool.specs.Words.{lacking}
use Rattle.trie_pool.specs.Rules.{capacity}
use Rattle.trie_char_answers.specs.Refusals.{remove_causes, fresh_causes}
use Rattle.trie_plants.specs.declared.Plant.{Plant}
use Rattle.trie_plants.specs.Halves.{half_of, limit_of, charge_of}
use Rattle.trie_plants.specs.Meaning.{plant_meaning}

-- What the plant would be charged with the word added. It is counted by the cells; that it is the
-- number of distinct non-empty prefixes of its own words is a theorem.
abbrev pub charge_with : Plant → List ℕ → List ℕ → ℕ
charge_with plant pool w = charge_of plant pool + lacking (half_of plant pool) w 0

-- 8: exactly if a charge would pass the plant's limit; by how many.
abbrev pub limit_cause : Plant → List ℕ → ℕ → Cause
limit_cause plant pool charge =
    record { refusal = TooFewNodes (charge - limit_of plant pool); holds = ltb (limit_of plant pool) charge }

-- Add: 2, 3, 4, 7, 8.
abbrev pub plant_add_causes : Plant → List ℕ → List ℕ → List Cause
plant_add_causes plant word pool =
    remove_causes word (plant_meaning plant pool)
    ++ (limit_cause plant pool (charge_with plant pool (trimmed_of word)) ∷ [])

-- 12: the two limits sum to more than capacity less one; 0.
abbrev pub limits_cause : ℕ → ℕ → List ℕ → Cause
limits_cause limit_a limit_b pool = record { refusal = LimitsTooLarge; holds = ltb (capacity pool - 1) (limit_a + limit_b) }

-- Start: 8 (missing 1 if under eight cells), then 12.
abbrev pub start_causes : ℕ → ℕ → List ℕ → List Cause
start_causes limit_a limit_b pool = fresh_causes pool ++ (limits_cause limit_a limit_b pool ∷ [])
