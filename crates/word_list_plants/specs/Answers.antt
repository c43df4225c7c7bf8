-- 02, ticket 11: what reading an image into a plant's half answers. Images are of one plant.
use Rattle.std.specs.Prelude.{ℕ, List, [], ◌∷◌, ◌++◌, length, Result}
use Rattle.refusal.specs.declared.Refusal.{Refusal}
use Rattle.refusal.specs.Answers.{Cause, answer}
use Rattle.trie_check.specs.Refusals.{pool_causes}
use Rattle.image_rules.specs.Lists.{charge}
use Rattle.word_list_answers.specs.Answers.{list_of, image_cause}
use Rattle.trie_plants.specs.declared.Plant.{Plant}
use Rattle.trie_plants.specs.Meaning.{plant_meaning}
use Rattle.trie_plants_answers.specs.Refusals.{limit_cause}

-- Order 4, 9, then 8: exactly if the charge of the image's words would pass the plant's limit.
abbrev pub plant_image_causes : Plant → List ℕ → List ℕ → List Cause
plant_image_causes plant image pool =
    pool_causes (plant_meaning plant pool)
    ++ (image_cause image ∷ limit_cause plant pool (charge (list_of image)) ∷ [])

-- accepted with the number of words
abbrev pub plant_read_answer : Plant → List ℕ → List ℕ → Result ℕ Refusal
plant_read_answer plant image pool = answer (plant_image_causes plant image pool) (length (list_of image))
