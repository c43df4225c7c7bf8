-- What a host is told of the dictionary of a plant, and what becomes of the rows that it lends: the
-- answer and the row of the library function, as its contract gives them.
use Rattle.std.specs.Prelude.{ℕ, ◌≡◌, Bool, true, false, List}
use Rattle.refusal.specs.Answers.{output}
use Rattle.trie_plants.specs.declared.Plant.{Plant}
use Rattle.trie_plants.specs.declared.Plant.TheVariants.{A, B}
use Rattle.trie_plants_answers.specs.Changes.{PlantAfter, Started}
use Rattle.trie_plants_answers.specs.Answers.{start_answer, plant_added, plant_add_answer, plant_removed, plant_remove_answer}
use Rattle.trie_plants_answers.specs.Answers.{plant_contains_answer, plant_prefixes, plant_prefixes_answer, plant_count_answer}
use Rattle.host_telling.specs.Told.{Told, tells}
use Rattle.host_words.specs.Calls.{held_answer, class_told}

-- Which plant a host means: false is plant A, true plant B.
abbrev pub plant_of : Bool → Plant
plant_of false = A
plant_of true = B

-- TWO PLANTS STARTED, with their limits: what is told, and the pool.
abbrev pub StartTold : (limit_a limit_b : ℕ) (pool : List ℕ) → Told → (left : List ℕ) → Type 0
StartTold limit_a limit_b pool t left =
    (t ≡ tells (start_answer limit_a limit_b pool))
    × Started (start_answer limit_a limit_b pool) limit_a limit_b pool left

-- A WORD ADDED to a plant's own, with a class: what is told, and the pool.
abbrev pub PlantAddTold : Plant → (word : List ℕ) (class : ℕ) (pool : List ℕ) → Told → (left : List ℕ) → Type 0
PlantAddTold plant word class pool t left =
    (t ≡ tells (plant_add_answer plant word class pool))
    × PlantAfter plant (plant_add_answer plant word class pool) pool left (plant_added plant word class pool)

-- A WORD REMOVED from a plant's own: what is told, and the pool.
abbrev pub PlantRemoveTold : Plant → (word pool : List ℕ) → Told → (left : List ℕ) → Type 0
PlantRemoveTold plant word pool t left =
    (t ≡ tells (plant_remove_answer plant word pool))
    × PlantAfter plant (plant_remove_answer plant word pool) pool left (plant_removed plant word pool)

-- DOES A PLANT HOLD A WORD, AND WITH WHICH CLASS: what is told, and the class.
abbrev pub PlantContainsTold : Plant → (word pool : List ℕ) → Told → (class : ℕ) → Type 0
PlantContainsTold plant word pool t class =
    (t ≡ tells (held_answer (plant_contains_answer plant word pool)))
    × (class ≡ class_told (plant_contains_answer plant word pool))

-- WORDS OF A PLANT THAT A TEXT STARTS WITH: what is told, and the output with their lengths.
abbrev pub PlantPrefixesTold : Plant → (text pool out : List ℕ) → Told → (left : List ℕ) → Type 0
PlantPrefixesTold plant text pool out t left =
    (t ≡ tells (plant_prefixes_answer plant text pool out))
    × (left ≡ output (plant_prefixes_answer plant text pool out) (plant_prefixes plant text pool) out)

-- THE NUMBER OF A PLANT'S WORDS: what is told.
abbrev pub PlantWordCountTold : Plant → (pool : List ℕ) → Told → Type 0
PlantWordCountTold plant pool t = t ≡ tells (plant_count_answer plant pool)
