-- 02, ticket 11: what writing a plant's image answers. Images are of one plant.
use Rattle.std.specs.Prelude.{ℕ, List, [], ◌∷◌, ◌++◌, length, Result}
use Rattle.refusal.specs.declared.Refusal.{Refusal}
use Rattle.refusal.specs.Answers.{Cause, out_cause, answer}
use Rattle.trie_check.specs.Refusals.{pool_causes}
use Rattle.image_rules.specs.Records.{image_of}
use Rattle.image_list.specs.Listed.{list_of}
use Rattle.trie_plants.specs.declared.Plant.{Plant}
use Rattle.trie_plants.specs.Halves.{half_of}
use Rattle.trie_plants.specs.Meaning.{plant_meaning}

-- the image of a plant's words
unfoldable pub plant_image : Plant → List ℕ → List ℕ
plant_image plant pool = image_of (list_of (half_of plant pool))

-- The writer's refusals: 4, 6.
abbrev pub plant_write_causes : Plant → List ℕ → List ℕ → List Cause
plant_write_causes plant pool out =
    pool_causes (plant_meaning plant pool) ++ (out_cause (length (plant_image plant pool)) (length out) ∷ [])

-- It is accepted with the bytes of the image.
abbrev pub plant_write_answer : Plant → List ℕ → List ℕ → Result ℕ Refusal
plant_write_answer plant pool out = answer (plant_write_causes plant pool out) (length (plant_image plant pool))
