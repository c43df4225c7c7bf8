-- What a host is told of a cut by the words of a plant, and what becomes of the rows that it lends:
-- the answer and the rows of the library function, as its contract gives them.
use Rattle.std.specs.Prelude.{ℕ, ◌≡◌, List}
use Rattle.trie_plants.specs.declared.Plant.{Plant}
use Rattle.newmm_answers.specs.Calls.{Call}
use Rattle.newmm_plants.specs.Calls.{plant_answer_of, plant_out_of, plant_scratch_of}
use Rattle.newmm_plants_reasons.specs.Calls.{plant_reasons_answer_of, plant_pairs_of}
use Rattle.host_telling.specs.Told.{Told, tells_cut}

-- A CUT BY A PLANT'S WORDS, IN ANY MODE: what the host is told, and what stands in the output and
-- in scratch.
abbrev pub PlantCutTold : Plant → Call → Told → (out scratch : List ℕ) → Type 0
PlantCutTold plant c t out scratch =
    (t ≡ tells_cut (plant_answer_of plant c)) × ((out ≡ plant_out_of plant c) × (scratch ≡ plant_scratch_of plant c))

-- THE SAME WITH REASONS: what the host is told, and what stands in the row of pairs and in scratch.
abbrev pub PlantReasonsTold : Plant → Call → Told → (pairs scratch : List ℕ) → Type 0
PlantReasonsTold plant c t pairs scratch =
    (t ≡ tells_cut (plant_reasons_answer_of plant c))
    × ((pairs ≡ plant_pairs_of plant c) × (scratch ≡ plant_scratch_of plant c))
