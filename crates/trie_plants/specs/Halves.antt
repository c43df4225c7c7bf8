-- 02, ticket 11: the half of a pool in which a plant's dictionary stands, and what it says of the
-- plant's limit and charge.
use Rattle.std.specs.Prelude.{ℕ, ◌-◌, List, get_or, drop}
use Rattle.trie_pool.specs.Cells.{used}
use Rattle.trie_pool.specs.Rules.{cells_of}
use Rattle.trie_plants.specs.declared.Plant.{Plant}
use Rattle.trie_plants.specs.declared.Plant.TheVariants.{A, B}

abbrev pub other_of : Plant → Plant
other_of A = B
other_of B = A

-- Plant A has the first halves of the nodes, plant B the second.
abbrev pub half_at : Plant → ℕ
half_at A = 0
half_at B = 4

-- The pool as the plant sees it: the cells of its node i stand from 8i on.
abbrev pub half_of : Plant → List ℕ → List ℕ
half_of plant pool = drop (half_at plant) (cells_of pool)

-- The root's fourth cell of a half: the plant's limit and one, for the root. Each plant gets a
-- limit in nodes at the start.
abbrev pub room_of : Plant → List ℕ → ℕ
room_of plant pool = get_or (half_of plant pool) 3 0

abbrev pub limit_of : Plant → List ℕ → ℕ
limit_of plant pool = room_of plant pool - 1

-- A plant is charged one for each node in use but the root: one for each distinct non-empty prefix
-- of its own words (crates/theorems_plants: charge-is).
abbrev pub charge_of : Plant → List ℕ → ℕ
charge_of plant pool = used (half_of plant pool) - 1
