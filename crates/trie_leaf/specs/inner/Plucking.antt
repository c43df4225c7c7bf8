-- What one leaf less asks and leaves.
use Rattle.std.specs.Prelude.{ℕ, suc, ◌+◌, ◌*◌, ◌≤◌, ◌<◌, ◌≡◌, List, length}
use Rattle.refusal.specs.Limits.{max_nodes}
use Rattle.trie_pool.specs.Cells.{scalar_at, first_at, count_at, mark_at}
use Rattle.trie_pool.specs.inner.Sound.{Shaped, Spare}
use Rattle.trie_leaf.specs.inner.Planting.{Planted}

-- what `pluck` asks: j is a leaf under b that ends no word, and m nodes are left
pub record Plucks (p : List ℕ) (m b j : ℕ) : Type 0 where
  pub shaped : Shaped p (suc m)
  pub spare : Spare p (suc m)
  pub parent : b < suc m
  pub from : first_at p b ≤ j
  pub upto : j < first_at p b + count_at p b
  pub leaf : count_at p j ≡ 0
  pub unmarked : mark_at p j ≡ 0
  pub fits : 8 * suc m ≤ length p + 4
  pub small : suc m ≤ max_nodes

-- what it leaves: a pool of which the old one is one with that leaf more
pub record Plucked (p p' : List ℕ) (m b j : ℕ) : Type 0 where
  pub planted : Planted p' p m b j (scalar_at p j)
  pub spare : Spare p' m
