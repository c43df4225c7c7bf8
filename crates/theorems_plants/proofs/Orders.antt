-- The numbers of each plant operation's causes, in order, as
-- crates/theorems_demands/proofs/Orders.antt has those of the plain ones. Assumes nothing.
use Prim.Native.Nat.{ℕ}
use native.Mathlib.Omega.{arith}
use mathlib.Core.Path.{◌≡◌, refl}
use mathlib.Core.List.{List, [], ◌∷◌}
use Rattle.refusal.specs.Answers.{numbers}
use Rattle.refusal.specs.Firsts.{Rising}
use Rattle.trie_check.specs.Refusals.{pool_causes, read_causes}
use Rattle.trie_char_answers.specs.Refusals.{prefix_causes, remove_causes}
use Rattle.trie_plants.specs.declared.Plant.{Plant}
use Rattle.trie_plants.specs.Meaning.{plant_meaning}
use Rattle.trie_plants_answers.specs.Refusals.{plant_add_causes, start_causes}
use Rattle.newmm_rules.specs.declared.Mode.{Mode}
use Rattle.newmm_answers.specs.Answers.{cut_causes}
use Rattle.word_list_plants.specs.Answers.{plant_image_causes}
use Rattle.word_list_plants_write.specs.Answers.{plant_write_causes}

-- Start: 8, 12.
pub start_order : (limit_a limit_b : ℕ) (pool : List ℕ) → numbers (start_causes limit_a limit_b pool) ≡ 8 ∷ 12 ∷ []
start_order limit_a limit_b pool = refl

module _ (plant : Plant) (pool : List ℕ) where
  -- Add: 2, 3, 4, 7, 8.
  pub add_order : (word : List ℕ) → numbers (plant_add_causes plant word pool) ≡ 2 ∷ 3 ∷ 4 ∷ 7 ∷ 8 ∷ []
  add_order word = refl

  -- Remove: 2, 3, 4, 7.
  pub remove_order : (word : List ℕ) → numbers (remove_causes word (plant_meaning plant pool)) ≡ 2 ∷ 3 ∷ 4 ∷ 7 ∷ []
  remove_order word = refl

  -- Contains: 2, 3, 4.
  pub contains_order : (word : List ℕ) → numbers (read_causes word (plant_meaning plant pool)) ≡ 2 ∷ 3 ∷ 4 ∷ []
  contains_order word = refl

  -- Prefix lengths: 2, 3, 4, 6.
  pub prefix_order : (text out : List ℕ) → numbers (prefix_causes text (plant_meaning plant pool) out) ≡ 2 ∷ 3 ∷ 4 ∷ 6 ∷ []
  prefix_order text out = refl

  -- Word count: 4.
  pub count_order : numbers (pool_causes (plant_meaning plant pool)) ≡ 4 ∷ []
  count_order = refl

  -- Cutting, also with reasons: 2, 3, 4, 5, 6.
  pub cut_order : (mode : Mode) (text : List ℕ) (cells room : ℕ) → numbers (cut_causes mode text (plant_meaning plant pool) cells room) ≡ 2 ∷ 3 ∷ 4 ∷ 5 ∷ 6 ∷ []
  cut_order mode text cells room = refl

  -- Reading an image: 4, 9, then 8.
  pub read_order : (image : List ℕ) → numbers (plant_image_causes plant image pool) ≡ 4 ∷ 9 ∷ 8 ∷ []
  read_order image = refl

  -- Writing one: 4, 6.
  pub write_order : (out : List ℕ) → numbers (plant_write_causes plant pool out) ≡ 4 ∷ 6 ∷ []
  write_order out = refl

-- ---- these rise, and so do those of the plain calls; the reader's don't

pub start_rises : Rising (8 ∷ 12 ∷ [])
start_rises = ((omega arith, tt), (tt, tt))

pub write_rises : Rising (4 ∷ 6 ∷ [])
write_rises = ((omega arith, tt), (tt, tt))
