-- Where the levels of a trie start, by how many nodes each has.
use Rattle.std.specs.Prelude.{ℕ, zero, suc, ◌+◌, ◌≤◌, ◌<◌, ◌≡◌, List, length, get_or}
use Rattle.refusal.specs.Limits.{max_nodes}

-- the first node of level d: the root is level 0 alone, and each level stands behind the one before
-- it
unfoldable pub start_of : List ℕ → ℕ → ℕ
start_of counts zero = 0
start_of counts (suc zero) = 1
start_of counts (suc (suc d)) = start_of counts (suc d) + get_or counts (suc d) 0

-- the counts of 256 levels, of at most 1,048,576 nodes
pub record Counts (counts : List ℕ) : Type 0 where
  pub many : length counts ≡ 257
  pub small : (d : ℕ) → d ≤ 256 → start_of counts d ≤ max_nodes

-- the first free node of each level, where only the root stands
pub record Begins (counts next : List ℕ) : Type 0 where
  pub root : get_or next 0 0 ≡ 1
  pub first : (d : ℕ) → 0 < d → d ≤ 256 → get_or next d 0 ≡ start_of counts d
  pub many : length next ≡ 257
