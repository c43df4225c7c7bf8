-- A trie that is made level by level: where its nodes stand, and one leaf more.
use Rattle.std.specs.Prelude.{ℕ, suc, ◌+◌, ◌≤◌, ◌<◌, ◌≡◌, List}
use Rattle.trie_pool.specs.Cells.{scalar_at, first_at, count_at, mark_at}
use Rattle.trie_pool.specs.inner.Sound.{Rising}

-- Nodes by levels: those of level d stand from s d on, next d is the first that is free. Children
-- of a level follow each other on the next one.
pub record Laid (p : List ℕ) (s next : ℕ → ℕ) : Type 0 where
  pub root : next 0 ≡ 1
  pub zero' : s 0 ≡ 0
  pub low : (d : ℕ) → d ≤ 256 → s d ≤ next d
  pub high : (d : ℕ) → d < 256 → next d ≤ s (suc d)
  pub first : (d i : ℕ) → d < 256 → s d ≡ i → i < next d → first_at p i ≡ s (suc d)
  pub follow : (d i : ℕ) → d < 256 → s d ≤ i → suc i < next d → first_at p (suc i) ≡ first_at p i + count_at p i
  pub tip : (d i : ℕ) → d < 256 → s d ≤ i → suc i ≡ next d → first_at p i + count_at p i ≡ next (suc d)
  pub none' : (d : ℕ) → d < 256 → next d ≡ s d → next (suc d) ≡ s (suc d)
  pub from : (d i : ℕ) → d < 256 → s d ≤ i → i < next d → s (suc d) ≤ first_at p i
  pub upto : (d i : ℕ) → d < 256 → s d ≤ i → i < next d → first_at p i + count_at p i ≤ next (suc d)
  pub rising : (d i : ℕ) → d < 256 → s d ≤ i → i < next d → Rising p (first_at p i) (first_at p i + count_at p i)

-- a leaf r of scalar x more, under b; f is where its children would stand
pub record Appended (p p' : List ℕ) (b r x f : ℕ) : Type 0 where
  pub scalar_new : scalar_at p' r ≡ x
  pub first_new : first_at p' r ≡ f
  pub count_new : count_at p' r ≡ 0
  pub count_parent : count_at p' b ≡ suc (count_at p b)
  pub scalar_other : (i : ℕ) → (i ≡ r → ⊥) → scalar_at p' i ≡ scalar_at p i
  pub first_other : (i : ℕ) → (i ≡ r → ⊥) → first_at p' i ≡ first_at p i
  pub count_other : (i : ℕ) → (i ≡ r → ⊥) → (i ≡ b → ⊥) → count_at p' i ≡ count_at p i
  pub mark_same : (i : ℕ) → mark_at p' i ≡ mark_at p i
