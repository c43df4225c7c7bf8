-- What one leaf more asks and leaves.
use Rattle.std.specs.Prelude.{ℕ, suc, ◌+◌, ◌*◌, ◌≤◌, ◌<◌, ◌≡◌, List, length, get_or}
use Rattle.refusal.specs.Limits.{max_nodes}
use Rattle.trie_pool.specs.Cells.{scalar_at, first_at, count_at, mark_at}
use Rattle.trie_pool.specs.inner.Sound.{Shaped, Spare}

-- j is the place of a new child of b with scalar x
pub record Room (p : List ℕ) (n b j x : ℕ) : Type 0 where
  pub parent : b < n
  pub from : first_at p b ≤ j
  pub upto : j ≤ first_at p b + count_at p b
  pub below : (k : ℕ) → first_at p b ≤ k → k < j → scalar_at p k < x
  pub above : (k : ℕ) → j ≤ k → k < first_at p b + count_at p b → x < scalar_at p k

-- what `plant` asks
pub record Plants (p : List ℕ) (n b j x : ℕ) : Type 0 where
  pub shaped : Shaped p n
  pub room : Room p n b j x
  pub spare : Spare p n
  pub fits : 8 * suc n ≤ length p + 4
  pub small : suc n ≤ max_nodes

-- what is no cell of the dictionary stays: all second halves and the root's fourth cell
pub record Beside (p p' : List ℕ) : Type 0 where
  pub root : get_or p' 3 0 ≡ get_or p 3 0
  pub aside : (i r : ℕ) → 4 ≤ r → r < 8 → get_or p' (8 * i + r) 0 ≡ get_or p (8 * i + r) 0

-- p' is p with a leaf of scalar x more: it stands at j, under b
pub record Planted (p p' : List ℕ) (n b j x : ℕ) : Type 0 where
  pub scalar_low : (i : ℕ) → 0 < i → i < j → scalar_at p' i ≡ scalar_at p i
  pub scalar_new : scalar_at p' j ≡ x
  pub scalar_high : (i : ℕ) → j ≤ i → i < n → scalar_at p' (suc i) ≡ scalar_at p i
  pub mark_low : (i : ℕ) → i < j → mark_at p' i ≡ mark_at p i
  pub mark_new : mark_at p' j ≡ 0
  pub mark_high : (i : ℕ) → j ≤ i → i < n → mark_at p' (suc i) ≡ mark_at p i
  pub count_low : (i : ℕ) → i < j → (i ≡ b → ⊥) → count_at p' i ≡ count_at p i
  pub count_parent : count_at p' b ≡ suc (count_at p b)
  pub count_new : count_at p' j ≡ 0
  pub count_high : (i : ℕ) → j ≤ i → i < n → count_at p' (suc i) ≡ count_at p i
  pub first_low : (i : ℕ) → i ≤ b → first_at p' i ≡ first_at p i
  pub first_mid : (i : ℕ) → b < i → i < j → first_at p' i ≡ suc (first_at p i)
  pub first_new : (i : ℕ) → suc i ≡ j → first_at p' j ≡ suc (first_at p i + count_at p i)
  pub first_high : (i : ℕ) → j ≤ i → i < n → first_at p' (suc i) ≡ suc (first_at p i)
  pub spare : Spare p' (suc n)
  pub beside : Beside p p'
