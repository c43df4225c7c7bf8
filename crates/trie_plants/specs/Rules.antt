-- The rules of a plants' pool, in the order and words of docs/POOL.md.
use Rattle.std.specs.Prelude.{ℕ, suc, ◌+◌, Bool, ◌&&◌, List, leb}
use Rattle.trie_pool.specs.Rules.{capacity, in_half}
use Rattle.trie_plants.specs.declared.Plant.{Plant}
use Rattle.trie_plants.specs.declared.Plant.TheVariants.{A, B}
use Rattle.trie_plants.specs.Halves.{half_of, room_of}

-- 14. Each half is a dictionary of at most so many nodes as the root's fourth cell of that half
-- says.
abbrev pub in_own_half : Plant → List ℕ → Bool
in_own_half plant pool = in_half (room_of plant pool) (half_of plant pool)

-- 15. These two cells sum to at most capacity and one. Each is at least 1 by rule 1, so the limits
-- sum to at most capacity less one.
abbrev pub limits_fit : List ℕ → Bool
limits_fit pool = leb (room_of A pool + room_of B pool) (suc (capacity pool))

-- Refusal 4 in plant calls means that the rules of a plants' pool don't hold.
unfoldable pub is_plants : List ℕ → Bool
is_plants pool = in_own_half A pool && in_own_half B pool && limits_fit pool
