-- The refusals of reading and writing an image, in the order of 02. Assumes nothing.
use Prim.Native.Nat.{ℕ}
use mathlib.Core.Path.{◌≡◌, refl}
use mathlib.Core.List.{List, [], ◌∷◌}
use Rattle.refusal.specs.Answers.{numbers}
use Rattle.word_list_answers.specs.Answers.{image_causes}
use Rattle.word_list_write.specs.Answers.{write_causes}

-- Reading: 4, 9, then 8.
pub read_image_order : (image pool : List ℕ) → numbers (image_causes image pool) ≡ 4 ∷ 9 ∷ 8 ∷ []
read_image_order image pool = refl

-- Writing: 4, 6.
pub write_image_order : (pool out : List ℕ) → numbers (write_causes pool out) ≡ 4 ∷ 6 ∷ []
write_image_order pool out = refl
