-- A call of the cut by a plant's words, and what its contract says of it. It is given what a call
-- of the cut is given; the pool's meaning is the plant's.
use Rattle.std.specs.Prelude.{◌≡◌, List, ℕ, length, Result}
use Rattle.newmm_rules.specs.declared.Ends.{Ends}
use Rattle.refusal.specs.declared.Refusal.{Refusal}
use Rattle.trie_plants.specs.declared.Plant.{Plant}
use Rattle.trie_plants.specs.Meaning.{plant_meaning}
use Rattle.newmm_answers.specs.Answers.{cut_answer, out_after, scratch_after}
use Rattle.newmm_answers.specs.Calls.{Call}

-- The answer, and the output and the scratch afterwards.
abbrev pub plant_answer_of : Plant → Call → Result Ends Refusal
plant_answer_of plant c =
    cut_answer c.mode c.text (plant_meaning plant c.pool) (length c.scratch) (length c.out)

abbrev pub plant_out_of : Plant → Call → List ℕ
plant_out_of plant c = out_after c.mode c.text (plant_meaning plant c.pool) (length c.scratch) c.out

abbrev pub plant_scratch_of : Plant → Call → List ℕ
plant_scratch_of plant c = scratch_after c.text (plant_meaning plant c.pool) c.scratch

-- THE CUT OF A PLANT: what it answers, and what it leaves in the output and in scratch.
abbrev pub PlantCuts : Plant → Call → Result Ends Refusal → (out scratch : List ℕ) → Type 0
PlantCuts plant c answer out scratch =
    (answer ≡ plant_answer_of plant c) × ((out ≡ plant_out_of plant c) × (scratch ≡ plant_scratch_of plant c))
