-- What a host is told of a word list image of a plant, and what becomes of the rows that it lends:
-- the answer and the row of the library function, as its contract gives them.
use Rattle.std.specs.Prelude.{ℕ, ◌≡◌, List}
use Rattle.refusal.specs.Answers.{output}
use Rattle.word_list_answers.specs.Answers.{image_terms}
use Rattle.trie_plants.specs.declared.Plant.{Plant}
use Rattle.trie_plants_answers.specs.Changes.{PlantAfter}
use Rattle.word_list_plants.specs.Answers.{plant_read_answer}
use Rattle.word_list_plants_write.specs.Answers.{plant_image, plant_write_answer}
use Rattle.host_telling.specs.Told.{Told, tells}

-- AN IMAGE READ into a plant's words: what is told, and the pool.
abbrev pub PlantReadImageTold : Plant → (image pool : List ℕ) → Told → (left : List ℕ) → Type 0
PlantReadImageTold plant image pool t left =
    (t ≡ tells (plant_read_answer plant image pool))
    × PlantAfter plant (plant_read_answer plant image pool) pool left (image_terms image)

-- AN IMAGE WRITTEN of a plant's words: what is told, and the output.
abbrev pub PlantWriteImageTold : Plant → (pool out : List ℕ) → Told → (left : List ℕ) → Type 0
PlantWriteImageTold plant pool out t left =
    (t ≡ tells (plant_write_answer plant pool out))
    × (left ≡ output (plant_write_answer plant pool out) (plant_image plant pool) out)
