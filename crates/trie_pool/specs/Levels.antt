-- Where the levels of a trie in level order end.
use Rattle.std.specs.Prelude.{ℕ, zero, suc, cond, List, ltb}
use Rattle.trie_pool.specs.Cells.{first_at}

-- where the level behind the one that ends at e ends
abbrev pub hop : List ℕ → ℕ → ℕ → ℕ
hop p n e = cond (ltb e n) (first_at p e) e

-- where the d-th level ends, the root being level 0
unfoldable pub level_end : List ℕ → ℕ → ℕ → ℕ
level_end p n zero = 1
level_end p n (suc d) = hop p n (level_end p n d)
