-- What a host is told of a call with many texts by the words of a plant, and what becomes of the
-- rows that it lends: the answer and the rows of the library function, as its contract gives them.
use Rattle.std.specs.Prelude.{ℕ, List}
use Rattle.trie_plants.specs.declared.Plant.{Plant}
use Rattle.newmm_many_answers.specs.Calls.{ManyCall}
use Rattle.newmm_plants_many.specs.Calls.{plant_cuts_one, plant_reasons_one}
use Rattle.host_telling.specs.Told.{Told}
use Rattle.host_many.specs.Calls.{ManyToldBy}

-- THE CUT OF MANY TEXTS BY A PLANT'S WORDS, IN ANY MODE: what the host is told of the whole call,
-- and what stands in the answers, in the output and in scratch.
abbrev pub PlantManyTold : Plant → ManyCall → Told → (answers out scratch : List ℕ) → Type 0
PlantManyTold plant c = ManyToldBy (plant_cuts_one plant c) c

-- THE SAME WITH REASONS. The output is the row of pairs.
abbrev pub PlantManyReasonsTold : Plant → ManyCall → Told → (answers pairs scratch : List ℕ) → Type 0
PlantManyReasonsTold plant c = ManyToldBy (plant_reasons_one plant c) c
