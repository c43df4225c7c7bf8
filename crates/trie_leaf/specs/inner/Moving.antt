-- What the moves of cells ask and leave.
use Rattle.std.specs.Prelude.{ℕ, suc, ◌+◌, ◌*◌, ◌≤◌, ◌<◌, ◌≡◌, List, length, get_or}
use Rattle.refusal.specs.Limits.{max_nodes}

-- four cells at a are written
pub record Put (p p' : List ℕ) (a scalar first count mark : ℕ) : Type 0 where
  pub scalar_is : get_or p' a 0 ≡ scalar
  pub first_is : get_or p' (a + 1) 0 ≡ first
  pub count_is : get_or p' (a + 2) 0 ≡ count
  pub mark_is : get_or p' (a + 3) 0 ≡ mark
  pub other : (k : ℕ) → ((r : ℕ) → r < 4 → k ≡ a + r → ⊥) → get_or p' k 0 ≡ get_or p k 0

-- the four cells from `source` on stand from `target` on, too
pub record Copied (p p' : List ℕ) (source target : ℕ) : Type 0 where
  pub moved : (r : ℕ) → r < 4 → get_or p' (target + r) 0 ≡ get_or p (source + r) 0
  pub other : (k : ℕ) → ((r : ℕ) → r < 4 → k ≡ target + r → ⊥) → get_or p' k 0 ≡ get_or p k 0

-- the halves of the nodes from `low` to `high` stand one node on
pub record Shifted (p p' : List ℕ) (low high : ℕ) : Type 0 where
  pub moved : (i r : ℕ) → low ≤ i → i < high → r < 4 → get_or p' (8 * suc i + r) 0 ≡ get_or p (8 * i + r) 0
  pub other : (k : ℕ) → ((i r : ℕ) → low ≤ i → i < high → r < 4 → k ≡ 8 * suc i + r → ⊥) → get_or p' k 0 ≡ get_or p k 0

-- the halves of the nodes behind `low`, up to `high`, stand one node back
pub record Unshifted (p p' : List ℕ) (low high : ℕ) : Type 0 where
  pub moved : (i r : ℕ) → low ≤ i → i < high → r < 4 → get_or p' (8 * i + r) 0 ≡ get_or p (8 * suc i + r) 0
  pub other : (k : ℕ) → ((i r : ℕ) → low ≤ i → i < high → r < 4 → k ≡ 8 * i + r → ⊥) → get_or p' k 0 ≡ get_or p k 0

-- what `bump` asks, and what it leaves: the first child of each node from `low` to `high` is one
-- more
pub record Bumps (p : List ℕ) (low high : ℕ) : Type 0 where
  pub fits : 8 * high ≤ length p + 4
  pub rising : low ≤ high
  pub small : (i : ℕ) → low ≤ i → i < high → get_or p (8 * i + 1) 0 ≤ max_nodes

pub record Bumped (p p' : List ℕ) (low high : ℕ) : Type 0 where
  pub first : (i : ℕ) → low ≤ i → i < high → get_or p' (8 * i + 1) 0 ≡ suc (get_or p (8 * i + 1) 0)
  pub other : (k : ℕ) → ((i : ℕ) → low ≤ i → i < high → k ≡ 8 * i + 1 → ⊥) → get_or p' k 0 ≡ get_or p k 0

-- what `lower` asks, and what it leaves: the first child of each node from `low` to `high` is one
-- less
pub record Lowers (p : List ℕ) (low high : ℕ) : Type 0 where
  pub fits : 8 * high ≤ length p + 4
  pub rising : low ≤ high
  pub some : (i : ℕ) → low ≤ i → i < high → 1 ≤ get_or p (8 * i + 1) 0

pub record Lowered (p p' : List ℕ) (low high : ℕ) : Type 0 where
  pub first : (i : ℕ) → low ≤ i → i < high → get_or p (8 * i + 1) 0 ≡ suc (get_or p' (8 * i + 1) 0)
  pub other : (k : ℕ) → ((i : ℕ) → low ≤ i → i < high → k ≡ 8 * i + 1 → ⊥) → get_or p' k 0 ≡ get_or p k 0
