-- A call with many texts by a plant's words, and what its contract says of it. It is given what a
-- call with many texts is given; the pool's meaning is the plant's.
use Rattle.std.specs.Prelude.{ℕ, List, Result}
use Rattle.refusal.specs.declared.Refusal.{Refusal}
use Rattle.trie_plants.specs.declared.Plant.{Plant}
use Rattle.trie_plants.specs.Meaning.{plant_meaning}
use Rattle.newmm_many_answers.specs.Turns.{Singly}
use Rattle.newmm_many_answers.specs.Singles.{cut_singly, reasons_singly}
use Rattle.newmm_many_answers.specs.Calls.{ManyCall, ManyBy}

-- THE CUT OF MANY TEXTS BY A PLANT'S WORDS: by the cut of the plant.
abbrev pub plant_cuts_one : Plant → ManyCall → Singly
plant_cuts_one plant c = cut_singly c.mode (plant_meaning plant c.pool)

abbrev pub PlantManyCuts : Plant → ManyCall → Result ℕ Refusal → (answers out scratch : List ℕ) → Type 0
PlantManyCuts plant c = ManyBy (plant_cuts_one plant c) c

-- THE SAME WITH REASONS: by the cut of the plant with reasons. The output is for pairs.
abbrev pub plant_reasons_one : Plant → ManyCall → Singly
plant_reasons_one plant c = reasons_singly c.mode (plant_meaning plant c.pool)

abbrev pub PlantManyReasons : Plant → ManyCall → Result ℕ Refusal → (answers out scratch : List ℕ) → Type 0
PlantManyReasons plant c = ManyBy (plant_reasons_one plant c) c
