-- The cells of a dictionary, and what each says. It stands in one half of a pool's nodes: in four
-- cells of each eight. The code has the same names (crates/trie_pool/src).
use Rattle.std.specs.Prelude.{ℕ, zero, suc, ◌+◌, ◌-◌, ◌*◌, List, get_or}

-- Eight cells to a node.
abbrev pub node_cells : ℕ
node_cells = 8

-- A class is at most 65,535.
abbrev pub max_class : ℕ
max_class = 65535

-- the character that node i adds to the one above it
unfoldable pub scalar_at : List ℕ → ℕ → ℕ
scalar_at p i = get_or p (node_cells * i) 0

-- where the children of node i stand, or would stand
unfoldable pub first_at : List ℕ → ℕ → ℕ
first_at p i = get_or p (node_cells * i + 1) 0

-- how many children it has
unfoldable pub count_at : List ℕ → ℕ → ℕ
count_at p i = get_or p (node_cells * i + 2) 0

-- its mark: 0 where no word ends, else the word's class and one. The root has none.
unfoldable pub mark_at : List ℕ → ℕ → ℕ
mark_at p zero = 0
mark_at p (suc i) = get_or p (node_cells * suc i + 3) 0

-- its class, 0 where no word ends
abbrev pub class_at : List ℕ → ℕ → ℕ
class_at p i = mark_at p i - 1

-- the nodes in use, a cell of the root
abbrev pub used : List ℕ → ℕ
used p = get_or p 0 0
