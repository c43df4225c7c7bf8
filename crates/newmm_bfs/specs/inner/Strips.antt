-- The scratch for m positions is a row of strips, one behind the other: ends, queue, predecessors,
-- first edges, numbers of edges, candidates and cluster ends with m cells each; then the ends of
-- the edges, at most m + 50.
use Rattle.std.specs.Prelude.{ℕ, ◌+◌, ◌*◌, ◌-◌, ◌≤◌, ◌<◌, ◌≡◌, Bool, cond, length, get_or, set, take, drop, eqb}
use mathlib.Core.List.{List, ◌++◌, Memᴰ}
use Rattle.newmm_rules.specs.Limits.{max_graph_size}
use Rattle.newmm_rules.specs.Search.{Graph, path_to}

-- ---- the map: where a cell of each strip stands, from the queue on

abbrev pub queue_cell : ℕ → ℕ → ℕ
queue_cell m i = m + i

abbrev pub predecessor_cell : ℕ → ℕ → ℕ
predecessor_cell m x = 2 * m + x

abbrev pub first_cell : ℕ → ℕ → ℕ
first_cell m v = 3 * m + v

abbrev pub count_cell : ℕ → ℕ → ℕ
count_cell m v = 4 * m + v

abbrev pub candidate_cell : ℕ → ℕ → ℕ
candidate_cell m x = 5 * m + x

abbrev pub edge_cell : ℕ → ℕ → ℕ
edge_cell m i = 7 * m + i

abbrev pub cells_for : ℕ → ℕ
cells_for m = 8 * m + max_graph_size

pub record Sized (row : List ℕ) (m : ℕ) : Type 0 where
  pub small : m ≤ 65536
  pub long : cells_for m ≤ length row

-- ---- what the strips hold

abbrev pub ends_in : List ℕ → ℕ → List ℕ
ends_in row m = take m row

-- 0, or 1 and the vertex from which x was queued
abbrev pub before : List ℕ → ℕ → ℕ → ℕ
before row m x = get_or row (predecessor_cell m x) 0

abbrev pub first_of : List ℕ → ℕ → ℕ → ℕ
first_of row m v = get_or row (first_cell m v) 0

abbrev pub count_of : List ℕ → ℕ → ℕ → ℕ
count_of row m v = get_or row (count_cell m v) 0

-- not 0 where x ever was a candidate
abbrev pub candidate_of : List ℕ → ℕ → ℕ → ℕ
candidate_of row m x = get_or row (candidate_cell m x) 0

abbrev pub flags_in : List ℕ → ℕ → List ℕ
flags_in row m = take (7 * m - 6 * m) (drop (6 * m) row)

-- the end of an edge of v: they stand together, from its first edge on
abbrev pub end_of : List ℕ → ℕ → ℕ → ℕ → ℕ
end_of row m v j = get_or row (edge_cell m (first_of row m v) + j) 0

unfoldable pub graph_in : List ℕ → ℕ → Graph
graph_in row m v = take (count_of row m v) (drop (edge_cell m (first_of row m v)) row)

-- the strips that a search may change, and those behind them
abbrev pub search_strips : List ℕ → ℕ → List ℕ
search_strips row m = take (3 * m) row

abbrev pub later_strips : List ℕ → ℕ → List ℕ
later_strips row m = drop (3 * m) row

-- ---- the search

abbrev pub unmarked : List ℕ → ℕ → ℕ → Bool
unmarked row m x = eqb (before row m x) 0

-- x is queued from v, unless it was queued before
unfoldable pub tail_after : List ℕ → ℕ → ℕ → ℕ → ℕ
tail_after row m tail x = cond (unmarked row m x) (tail + 1) tail

unfoldable pub row_after : List ℕ → ℕ → ℕ → ℕ → ℕ → List ℕ
row_after row m tail v x =
    cond (unmarked row m x) (set (set row (predecessor_cell m x) (v + 1)) (queue_cell m tail) x) row

-- edges from a place lead on, and no farther than the goal
pub record Edges (row : List ℕ) (m goal v : ℕ) : Type 0 where
  pub fits : edge_cell m (first_of row m v) + count_of row m v ≤ length row
  pub on : (j : ℕ) → j < count_of row m v → (v < end_of row m v j) × (end_of row m v j ≤ goal)

-- edges from vertices below the goal lead from a to x
pub data Leads (graph : Graph) (a goal : ℕ) : ℕ → Type 0 where
  at_start : Leads graph a goal a
  by_edge : {v x : ℕ} → Leads graph a goal v → v < goal → Memᴰ x (graph v) → Leads graph a goal x

-- what a search asks: the start lies before the goal, edges between them are in order, nothing from
-- the start on is marked, and edges lead from the start to the goal, so that a way is found
pub record Start (row : List ℕ) (m start goal : ℕ) : Type 0 where
  pub sized : Sized row m
  pub order : start < goal
  pub inside : goal < m
  pub edges : (v : ℕ) → start ≤ v → v < goal → Edges row m goal v
  pub fresh : (x : ℕ) → start ≤ x → x < m → before row m x ≡ 0
  pub way : Leads (graph_in row m) start goal goal

-- what a search leaves as it was: the ends, and all behind the predecessors; and nothing from the
-- goal on is marked
pub record Kept (m goal : ℕ) (row row' : List ℕ) : Type 0 where
  pub low : ends_in row' m ≡ ends_in row m
  pub high : later_strips row' m ≡ later_strips row m
  pub later : (x : ℕ) → goal ≤ x → x < m → before row' m x ≡ 0

-- what the path search gives: its ends behind those that were there, and their number
pub record Path (row row' : List ℕ) (m start goal count r : ℕ) : Type 0 where
  pub number : r ≡ count + length (path_to (graph_in row m) start goal)
  pub ends : take r row' ≡ take count row ++ path_to (graph_in row m) start goal
  pub few : r ≤ goal
  pub high : later_strips row' m ≡ later_strips row m
  pub later : (x : ℕ) → goal ≤ x → x < m → before row' m x ≡ 0
