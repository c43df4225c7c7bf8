-- The rules of a well-formed pool as facts, one node being excepted: what functions of our own
-- crates ask and leave.
use Rattle.std.specs.Prelude.{ℕ, suc, ◌+◌, ◌*◌, ◌≤◌, ◌<◌, ◌≡◌, Bool, true, false, List, length, get_or}
use Rattle.refusal.specs.Limits.{max_word, max_nodes}
use Rattle.char_string_scalars.specs.Scalars.{is_scalar}
use Rattle.char_string_white_space.specs.Trimmed.{is_trimmed}
use Rattle.trie_pool.specs.Cells.{max_class, scalar_at, first_at, count_at, mark_at}
use Rattle.trie_pool.specs.Levels.{level_end}

-- n nodes in level order: the children of each node stand behind those of the node before it, from
-- node 1 to the last
pub record Shaped (p : List ℕ) (n : ℕ) : Type 0 where
  pub some : 0 < n
  pub start : first_at p 0 ≡ 1
  pub next : (i : ℕ) → suc i < n → first_at p (suc i) ≡ first_at p i + count_at p i
  pub last : (i : ℕ) → suc i ≡ n → first_at p i + count_at p i ≡ n
  pub ahead : (i : ℕ) → i < n → i < first_at p i

-- the scalars of the nodes from s to e rise
abbrev pub Rising : List ℕ → ℕ → ℕ → Type 0
Rising p s e = (k : ℕ) → s ≤ k → suc k < e → scalar_at p k < scalar_at p (suc k)

-- the scalar and the mark of a node that isn't the root
pub record Fit (c m : ℕ) : Type 0 where
  pub legal : is_scalar c ≡ true
  pub mark : m ≤ max_class + 1
  pub stop : 1 ≤ m → is_trimmed c ≡ false

-- the root's first cell is the number of nodes in use, and the nodes that are not in use are 0
pub record Spare (p : List ℕ) (n : ℕ) : Type 0 where
  pub used : get_or p 0 0 ≡ n
  pub blank : (i r : ℕ) → n ≤ i → r < 4 → get_or p (8 * i + r) 0 ≡ 0

-- what a plain pool has beside its dictionary
pub record Plain (p : List ℕ) : Type 0 where
  pub root : get_or p 3 0 ≡ 0
  pub aside : (i r : ℕ) → 4 ≤ r → r < 8 → get_or p (8 * i + r) 0 ≡ 0

-- a dictionary of n nodes, but that the node cur may be a leaf that ends no word (0, the root: no
-- exception)
pub record Sound (p : List ℕ) (n cur : ℕ) : Type 0 where
  pub shaped : Shaped p n
  pub fits : 8 * n ≤ length p + 4
  pub small : n ≤ max_nodes
  pub rising : (i : ℕ) → i < n → Rising p (first_at p i) (first_at p i + count_at p i)
  pub fit : (i : ℕ) → 0 < i → i < n → Fit (scalar_at p i) (mark_at p i)
  pub leaf : (i : ℕ) → 0 < i → i < n → (i ≡ cur → ⊥) → 1 ≤ count_at p i + mark_at p i
  pub start : (i : ℕ) → 0 < i → i ≤ count_at p 0 → is_trimmed (scalar_at p i) ≡ false
  pub shallow : level_end p n max_word ≡ n
  pub spare : Spare p n

-- what the readers ask: n nodes in level order, the children of each rising, b being one of them
pub record Readable (p : List ℕ) (b : ℕ) : Type 0 where
  pub nodes : ℕ
  pub inside : b < nodes
  pub shaped : Shaped p nodes
  pub fits : 8 * nodes ≤ length p + 4
  pub rising : (i : ℕ) → i < nodes → Rising p (first_at p i) (first_at p i + count_at p i)
