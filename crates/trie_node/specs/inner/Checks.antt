-- What is asked of a single node.
use Rattle.std.specs.Prelude.{ℕ, ◌+◌, ◌≤◌, ◌≡◌, Bool, true, false, List}
use Rattle.char_string_scalars.specs.Scalars.{is_scalar}
use Rattle.char_string_white_space.specs.Trimmed.{is_trimmed}
use Rattle.trie_pool.specs.Cells.{scalar_at, first_at, count_at, mark_at}
use Rattle.trie_pool.specs.inner.Sound.{Fit}

-- b says whether P holds
pub record Decides (b : Bool) (P : Type 0) : Type 0 where
  pub yes' : b ≡ true → P
  pub no' : b ≡ false → P → ⊥

-- what is asked of the scalar of a node that is not the root, beside its mark
pub record Legal (c m : ℕ) : Type 0 where
  pub legal : is_scalar c ≡ true
  pub stop : 1 ≤ m → is_trimmed c ≡ false

-- what is asked of the scalar, the count and the mark of a node that is not the root
pub record Inner (c k m : ℕ) : Type 0 where
  pub fit : Fit c m
  pub leaf : 1 ≤ k + m

-- what is asked of node i, whose children start at s
pub record Stands (p : List ℕ) (i s : ℕ) : Type 0 where
  pub first : first_at p i ≡ s
  pub inner : Inner (scalar_at p i) (count_at p i) (mark_at p i)
