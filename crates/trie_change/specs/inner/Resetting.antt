-- What making a pool without words leaves.
use Rattle.std.specs.Prelude.{ℕ, ◌≡◌, List, get_or}

-- the cells of the root alone, whose children would start at node 1 and which is the only node in
-- use
pub record RootAlone (p : List ℕ) : Type 0 where
  pub first : get_or p 1 0 ≡ 1
  pub used : get_or p 0 0 ≡ 1
  pub others : (k : ℕ) → (k ≡ 1 → ⊥) → (k ≡ 0 → ⊥) → get_or p k 0 ≡ 0
