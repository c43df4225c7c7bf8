-- The rules of a dictionary and of a plain pool, in the order and words of docs/POOL.md.
use Rattle.std.specs.Prelude.{ℕ, zero, suc, ◌+◌, ◌-◌, ◌*◌, ◌/◌, min, Bool, true, not, ◌&&◌, ◌||◌, List, [], ◌∷◌, ltb, leb, eqb, length, get_or, take}
use Rattle.refusal.specs.Limits.{max_word, max_nodes}
use Rattle.char_string_scalars.specs.Scalars.{is_scalar}
use Rattle.char_string_white_space.specs.Trimmed.{is_trimmed}
use Rattle.trie_pool.specs.Cells.{node_cells, max_class, scalar_at, first_at, count_at, mark_at, class_at, used}
use Rattle.trie_pool.specs.Words.{marked}
use Rattle.trie_pool.specs.Levels.{level_end}

-- Eight cells to a node, at most 1,048,576 nodes.
abbrev pub capacity : List ℕ → ℕ
capacity pool = min (length pool / node_cells) max_nodes

-- Later cells and a part node are never read or written.
abbrev pub cells_of : List ℕ → List ℕ
cells_of pool = take (node_cells * capacity pool) pool

-- f holds of each number below n
unfoldable pub every : ℕ → (ℕ → Bool) → Bool
every zero f = true
every (suc n) f = every n f && f n

-- f holds of each node in use, or of each but the root
abbrev pub each_node : List ℕ → (ℕ → Bool) → Bool
each_node p f = every (used p) f

abbrev pub each_inner : List ℕ → (ℕ → Bool) → Bool
each_inner p f = every (used p - 1) (λ i. f (suc i))

-- 1. The nodes in use are at least one and at most `most`.
abbrev pub in_use : ℕ → List ℕ → Bool
in_use most p = leb 1 (used p) && leb (used p) most

-- 2. Level order: the root's children start at node 1, those of each other node right behind those
-- of the node before it, and the last ones end with the nodes in use.
abbrev pub level_order : List ℕ → Bool
level_order p =
    eqb (first_at p 0) 1
    && every (used p - 1) (λ i. eqb (first_at p (suc i)) (first_at p i + count_at p i))
    && eqb (first_at p (used p - 1) + count_at p (used p - 1)) (used p)

-- 3. Each node stands before its children.
abbrev pub before_children : List ℕ → Bool
before_children p = each_node p (λ i. ltb i (first_at p i))

-- 4. The scalars of a node's children rise.
abbrev pub rising : List ℕ → Bool
rising p =
    each_node p (λ i. every (count_at p i - 1)
    (λ k. ltb (scalar_at p (first_at p i + k)) (scalar_at p (first_at p i + suc k))))

-- 5. Each scalar but the root's is a Unicode scalar value.
abbrev pub scalars : List ℕ → Bool
scalars p = each_inner p (λ i. is_scalar (scalar_at p i))

-- 6. Each class is at most 65,535, and 0 at a node that ends no word.
abbrev pub classes : List ℕ → Bool
classes p = each_inner p (λ i. leb (class_at p i) max_class && (marked (mark_at p i) || eqb (class_at p i) 0))

-- 7. A node without a child is marked, the root excepted.
abbrev pub leaves : List ℕ → Bool
leaves p = each_inner p (λ i. leb 1 (count_at p i) || marked (mark_at p i))

-- 8. No word starts with a trimmed character.
abbrev pub starts : List ℕ → Bool
starts p = every (count_at p 0) (λ i. not (is_trimmed (scalar_at p (suc i))))

-- 9. No word ends with a trimmed character.
abbrev pub stops : List ℕ → Bool
stops p = each_inner p (λ i. not (marked (mark_at p i) && is_trimmed (scalar_at p i)))

-- 10. There are at most 255 levels below the root.
abbrev pub levels : List ℕ → Bool
levels p = eqb (level_end p (used p) max_word) (used p)

-- the nodes that have cells in the list
abbrev pub nodes_in : List ℕ → ℕ
nodes_in p = (length p + 7) / node_cells

-- 11. The cells of the half are 0 in each node that is not in use.
abbrev pub unused : List ℕ → Bool
unused p = every (nodes_in p - used p) (λ i. every 4 (λ r. eqb (get_or p (node_cells * (used p + i) + r) 0) 0))

abbrev pub rules : ℕ → List ℕ → List Bool
rules most p =
    in_use most p ∷ level_order p ∷ before_children p ∷ rising p ∷ scalars p ∷ classes p
    ∷ leaves p ∷ starts p ∷ stops p ∷ levels p ∷ unused p ∷ []

abbrev pub all : List Bool → Bool
all [] = true
all (b ∷ bs) = b && all bs

-- whether a dictionary of at most `most` nodes stands in the half that starts with the first cell
unfoldable pub in_half : ℕ → List ℕ → Bool
in_half most p = all (rules most p)

-- whether the root's fourth cell and all second halves are 0
unfoldable pub plain : List ℕ → Bool
plain p = eqb (get_or p 3 0) 0 && every (nodes_in p) (λ i. every 4 (λ r. eqb (get_or p (node_cells * i + (4 + r)) 0) 0))

-- A plain pool: 12. its first halves are a dictionary of at most capacity nodes; 13. the root's
-- fourth cell and all second halves are 0.
unfoldable pub well_formed : List ℕ → Bool
well_formed p = in_half (capacity p) p && plain p

-- Refusal 4 means that the rules of a plain pool don't hold.
abbrev pub is_dictionary : List ℕ → Bool
is_dictionary pool = well_formed (cells_of pool)
