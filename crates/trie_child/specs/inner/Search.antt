-- What a search for a child finds.
use Rattle.std.specs.Prelude.{ℕ, ◌+◌, ◌≤◌, ◌<◌, List, Option, Some, None}
use Rattle.trie_pool.specs.Cells.{scalar_at, first_at, count_at}
use Rattle.trie_pool.specs.Words.{Place, none, at}
use Rattle.trie_pool.specs.inner.Sound.{Readable}

-- where a child of b with scalar x stands, or would stand: r
pub record Sought (p : List ℕ) (b x r : ℕ) : Type 0 where
  pub from : first_at p b ≤ r
  pub upto : r ≤ first_at p b + count_at p b
  pub below : (k : ℕ) → first_at p b ≤ k → k < r → scalar_at p k < x
  pub stop : r < first_at p b + count_at p b → x ≤ scalar_at p r

-- of the children of b, the one at low is lower than x, and the one at high is not
pub record Between (p : List ℕ) (b x low high : ℕ) : Type 0 where
  pub readable : Readable p b
  pub from : first_at p b ≤ low
  pub order : low < high
  pub upto : high < first_at p b + count_at p b
  pub lower : scalar_at p low < x
  pub higher : x ≤ scalar_at p high

-- a child that was found, or none
abbrev pub to_place : Option ℕ → Place
to_place None = none
to_place (Some r) = at r
