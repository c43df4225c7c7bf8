-- What taking a word out asks and leaves.
use Rattle.std.specs.Prelude.{ℕ, ◌+◌, ◌≤◌, ◌<◌, ◌≡◌, List, length}
use Rattle.std.proofs.Math.Option as option
use Rattle.trie_pool.specs.Cells.{first_at, count_at, used}
use Rattle.trie_pool.specs.Words.{at, term_at, rev}
use Rattle.trie_pool.specs.inner.Paths.{reach}
use Rattle.trie_pool.specs.inner.Sound.{Sound}
use Rattle.trie_leaf.specs.inner.Planting.{Beside}

-- what `prune` asks: j is the child of b that may be a leaf without mark
pub record Prunes (p : List ℕ) (b j : ℕ) : Type 0 where
  pub sound : Sound p (used p) j
  pub path : List ℕ
  pub leads : reach p path ≡ at b
  pub from : first_at p b ≤ j
  pub upto : j < first_at p b + count_at p b

-- what it leaves: the same words, and b may now be such a leaf
pub record Pruned (p p' : List ℕ) (b : ℕ) : Type 0 where
  pub sound : Sound p' (used p') b
  pub keeps : (v : List ℕ) (z : ℕ) → reach p v ≡ at z → z ≤ b → reach p' v ≡ at z
  pub same : (v : List ℕ) → term_at p' v ≡ term_at p v
  pub fewer : used p' ≤ used p
  pub beside : Beside p p'

-- what `remove_word` asks: a dictionary and one of its nodes, and that the word that goes on with w
-- from it doesn't end at the root
pub record Removes (p : List ℕ) (b : ℕ) (w : List ℕ) : Type 0 where
  pub past_root : 0 < b + length w
  pub sound : Sound p (used p) 0
  pub path : List ℕ
  pub leads : reach p path ≡ at b

-- what it leaves, where the path u (from its end) leads to b: the word that goes on with w from b
-- is gone, b itself may be left without child or mark, and each node up to b has kept its number
pub record Removed (p p' u : List ℕ) (b : ℕ) (w : List ℕ) : Type 0 where
  pub sound : Sound p' (used p') b
  pub keeps : (v : List ℕ) (z : ℕ) → reach p v ≡ at z → z ≤ b → reach p' v ≡ at z
  pub gone : term_at p' (rev u w) ≡ option.none
  pub others : (v : List ℕ) → (v ≡ rev u w → ⊥) → term_at p' v ≡ term_at p v
  pub fewer : used p' ≤ used p
  pub beside : Beside p p'
