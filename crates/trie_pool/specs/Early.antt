-- THE STOP AT A LARGER SCALAR LOSES NOTHING.
use Rattle.std.specs.Prelude.{ℕ, suc, ◌+◌, ◌≤◌, ◌<◌, ◌≡◌, true, List}
use Rattle.trie_pool.specs.Cells.{scalar_at, first_at, count_at, used}
use Rattle.trie_pool.specs.Words.{scan, walk_all, child}
use Rattle.trie_pool.specs.Rules.{cells_of, is_dictionary}

-- Among n nodes from s on whose scalars rise, the scan that stops as soon as it meets a larger
-- scalar finds what the walk over all of them finds: the same node, or none.
abbrev pub EarlyStop : Type 0
EarlyStop =
    (p : List ℕ) (x s n : ℕ)
    → ((k : ℕ) → s ≤ k → suc k < s + n → scalar_at p k < scalar_at p (suc k))
    → scan p x s n ≡ walk_all p x s n

-- So in every pool that passes, the child of a node is the one that the walk over all of its
-- children finds. Every answer, count and refusal that asks for a child asks for `child`.
abbrev pub ChildAll : Type 0
ChildAll =
    (pool : List ℕ)
    → is_dictionary pool ≡ true
    → (i x : ℕ)
    → i < used (cells_of pool)
    → child (cells_of pool) i x ≡ walk_all (cells_of pool) x (first_at (cells_of pool) i) (count_at (cells_of pool) i)
