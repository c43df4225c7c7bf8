-- What becomes of a pool that was lent to a plant call to be changed, or to a start.
use Rattle.std.specs.Prelude.{ℕ, ◌+◌, ◌*◌, ◌<◌, ◌≡◌, List, length, get_or, drop, Result, Ok, Err}
use Rattle.std.proofs.Math.Option.{some}
use Rattle.refusal.specs.declared.Refusal.{Refusal}
use Rattle.trie_pool.specs.Cells.{node_cells}
use Rattle.trie_pool.specs.Rules.{capacity}
use Rattle.trie_pool.specs.Meaning.{Terms, no_term}
use Rattle.trie_plants.specs.declared.Plant.{Plant}
use Rattle.trie_plants.specs.declared.Plant.TheVariants.{A, B}
use Rattle.trie_plants.specs.Halves.{other_of, half_of, room_of, limit_of}
use Rattle.trie_plants.specs.Meaning.{plant_terms}

-- The plant's limit and each cell of the other plant's half are as they were.
pub record Apart (plant : Plant) (old new : List ℕ) : Type 0 where
  pub limit : room_of plant new ≡ room_of plant old
  pub other : (i r : ℕ) → r < 4
      → get_or (half_of (other_of plant) new) (node_cells * i + r) 0
      ≡ get_or (half_of (other_of plant) old) (node_cells * i + r) 0

-- The pool in which the plant holds these words with these classes, and all else is as it was:
-- there is one such pool. Later cells and a part node are never written.
pub record PlantBecame (plant : Plant) (old new : List ℕ) (held : Terms) : Type 0 where
  pub means : plant_terms plant new ≡ some held
  pub apart : Apart plant old new
  pub later : drop (node_cells * capacity old) new ≡ drop (node_cells * capacity old) old
  pub kept : length new ≡ length old

-- A refusal changes no pool.
abbrev pub PlantAfter : Plant → Result ℕ Refusal → List ℕ → List ℕ → Terms → Type 0
PlantAfter plant (Ok n) old new held = PlantBecame plant old new held
PlantAfter plant (Err r) old new held = new ≡ old

-- The pool in which two plants with these limits hold no word, whatever the cells held before:
-- there is one such pool.
pub record PlantsBegin (limit_a limit_b : ℕ) (old new : List ℕ) : Type 0 where
  pub means : (plant : Plant) → plant_terms plant new ≡ some no_term
  pub limit_of_a : limit_of A new ≡ limit_a
  pub limit_of_b : limit_of B new ≡ limit_b
  pub later : drop (node_cells * capacity old) new ≡ drop (node_cells * capacity old) old
  pub kept : length new ≡ length old

abbrev pub Started : Result ℕ Refusal → ℕ → ℕ → List ℕ → List ℕ → Type 0
Started (Ok n) limit_a limit_b old new = PlantsBegin limit_a limit_b old new
Started (Err r) limit_a limit_b old new = new ≡ old
