-- What the walk over the nodes has found where it stands, and what it decides.
use Rattle.std.specs.Prelude.{ℕ, ◌+◌, ◌-◌, ◌*◌, ◌≤◌, ◌<◌, ◌≡◌, List, get_or}
use Rattle.trie_pool.specs.Cells.{scalar_at, first_at, count_at, mark_at}
use Rattle.trie_pool.specs.inner.Sound.{Shaped, Rising}
use Rattle.trie_node.specs.inner.Checks.{Inner, Stands}
use Rattle.trie_nodes.specs.declared.Walk.{Walk}
use Rattle.trie_nodes.specs.inner.Falls.{none, falls, place, first, starts}

-- what is asked of node i, whose children start at s
pub record Each (p : List ℕ) (n i s : ℕ) : Type 0 where
  pub first : first_at p i ≡ s
  pub ahead : i < s
  pub fits : s + count_at p i ≤ n
  pub rising : Rising p s (s + count_at p i)
  pub inner : 0 < i → Inner (scalar_at p i) (count_at p i) (mark_at p i)

-- the second half of node i is 0
pub record Aside (p : List ℕ) (i : ℕ) : Type 0 where
  pub zeros : (r : ℕ) → 4 ≤ r → r < 8 → get_or p (8 * i + r) 0 ≡ 0

-- all that is asked of each node, and that the children are all the nodes but the root
pub record Nodes (p : List ℕ) (n : ℕ) : Type 0 where
  pub shaped : Shaped p n
  pub each : (i : ℕ) → i < n → Each p n i (first_at p i)

-- the same, and that the second halves are 0
pub record PlainNodes (p : List ℕ) (n : ℕ) : Type 0 where
  pub nodes : Nodes p n
  pub aside : (i : ℕ) → i < n → Aside p i

-- what is asked of the nodes of a half and, with all eight cells, of those of a plain pool
pub record AllNodes (cells : ℕ) (p : List ℕ) (n : ℕ) : Type 0 where
  pub nodes : Nodes p n
  pub aside : cells ≡ 8 → (i : ℕ) → i < n → Aside p i

-- no scalar of n nodes is none
abbrev pub Low : List ℕ → ℕ → Type 0
Low p n = (j : ℕ) → j < n → scalar_at p j < none

-- the nodes before i stand as they may, and so many of them, and of their first children, fall
pub record Walking (p : List ℕ) (n i s f b : ℕ) : Type 0 where
  pub low : 1 ≤ i
  pub upto : i ≤ n
  pub here : s ≡ place (count_at p) i
  pub each : (j : ℕ) → 0 < j → j < i → Stands p j (place (count_at p) j)
  pub ahead : (j : ℕ) → 0 < j → j < i → j < place (count_at p) j
  pub falls : f ≡ falls (scalar_at p) 0 (i - 1)
  pub starts : s ≤ n → Low p n → b ≡ starts (scalar_at p) (count_at p) i
  pub few_falls : f ≤ i
  pub few_starts : b ≤ i

-- four numbers that are 0 exactly if the second halves of the nodes before i are
pub record Beside (p : List ℕ) (i a b c d : ℕ) : Type 0 where
  pub none : a ≡ 0 → b ≡ 0 → c ≡ 0 → d ≡ 0 → (j : ℕ) → j < i → Aside p j
  pub all : ((j : ℕ) → j < i → Aside p j) → (a ≡ 0) × (b ≡ 0) × (c ≡ 0) × (d ≡ 0)

-- where the walk stands; it sees to the second halves if it looks at all eight cells
abbrev pub At : (cells : ℕ) → List ℕ → ℕ → Walk → Type 0
At cells p n w =
    (Walking p n w.i w.s w.falls w.starts)
    × (cells ≡ 8 → Beside p w.i w.fifth w.sixth w.seventh w.eighth)

-- the next node is right: it has k children, and `b` says if the first of them falls
pub record Next (p : List ℕ) (n i s k b : ℕ) : Type 0 where
  pub inside : i < n
  pub ahead : i < s
  pub stands : Stands p i s
  pub count : k ≡ count_at p i
  pub start : Low p n → b ≡ first (scalar_at p) s k
  pub few : b ≤ 1

-- how a walk over nodes with children ends; W says where it stands
pub record Parents (p : List ℕ) (n s : ℕ) (W : Type 0) : Type 0 where
  pub right : s ≡ n → W
  pub wrong : (s ≡ n → ⊥) → Nodes p n → ⊥

-- how a walk over the rest ends
pub record Leaves (p : List ℕ) (n i s : ℕ) (W : Type 0) : Type 0 where
  pub walk : W
  pub here : s ≡ n
  pub wrong : (i ≡ n → ⊥) → Nodes p n → ⊥
