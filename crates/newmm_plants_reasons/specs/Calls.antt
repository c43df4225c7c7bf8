-- A call of the cut with reasons by a plant's words, and what its contract says of it. It is given
-- what a call of the cut is given; the output is for pairs, the pool's meaning is the plant's.
use Rattle.std.specs.Prelude.{◌≡◌, List, ℕ, length, Result}
use Rattle.newmm_rules.specs.declared.Ends.{Ends}
use Rattle.refusal.specs.declared.Refusal.{Refusal}
use Rattle.trie_plants.specs.declared.Plant.{Plant}
use Rattle.trie_plants.specs.Meaning.{plant_meaning}
use Rattle.newmm_answers.specs.Calls.{Call}
use Rattle.newmm_reasons_answers.specs.Answers.{pair_room, reasons_answer, pairs_after}
use Rattle.newmm_plants.specs.Calls.{plant_scratch_of}

-- The answer, and the output afterwards. Scratch is left as a cut leaves it.
abbrev pub plant_reasons_answer_of : Plant → Call → Result Ends Refusal
plant_reasons_answer_of plant c =
    reasons_answer c.mode c.text (plant_meaning plant c.pool) (length c.scratch) (pair_room c.out)

abbrev pub plant_pairs_of : Plant → Call → List ℕ
plant_pairs_of plant c = pairs_after c.mode c.text (plant_meaning plant c.pool) (length c.scratch) c.out

-- THE CUT OF A PLANT WITH REASONS: what it answers, and leaves in the output and in scratch.
abbrev pub PlantReasons : Plant → Call → Result Ends Refusal → (out scratch : List ℕ) → Type 0
PlantReasons plant c answer out scratch =
    (answer ≡ plant_reasons_answer_of plant c) × ((out ≡ plant_pairs_of plant c) × (scratch ≡ plant_scratch_of plant c))
