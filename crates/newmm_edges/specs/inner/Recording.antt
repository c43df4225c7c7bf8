-- Step 1 in the strips of the scratch.
use Rattle.std.specs.Prelude.{ℕ, suc, ◌+◌, ◌*◌, ◌-◌, ◌≤◌, ◌<◌, ◌≡◌, Bool, cond, not, length, get_or, set, eqb}
use mathlib.Core.List.{List, [], Memᴰ}
use Rattle.newmm_rules.specs.Limits.{max_graph_size}
use Rattle.newmm_rules.specs.Positions.{member}
use Rattle.newmm_rules.specs.Words.{word_ends}
use Rattle.newmm_rules.specs.Cutting.{State, graph_of, recorded_all}
use Rattle.newmm_bfs.specs.inner.Strips.{Sized, first_cell, count_cell, candidate_cell, edge_cell}
use Rattle.newmm_bfs.specs.inner.Strips.{first_of, count_of, candidate_of, flags_in, graph_in, search_strips}
use Rattle.tcc.specs.Flags.{end_flags}
use Rattle.trie_pool.specs.inner.Sound.{Readable}
use Rattle.newmm_word_step.specs.inner.Walks.{given_by}
use Rattle.newmm_edges.specs.declared.Progress.{Progress}

-- the row when an edge from b to e is recorded, where k edges stand and those of b start at first
unfoldable pub row_after : List ℕ → ℕ → ℕ → ℕ → ℕ → ℕ → List ℕ
row_after row m b e first k =
    set (set (set row (edge_cell m k) e) (count_cell m b) (k + 1 - first)) (candidate_cell m e) 1

-- the numbers then: one candidate more, if it never was one
unfoldable pub progress_after : List ℕ → ℕ → ℕ → Progress → Progress
progress_after row m e p =
    record {
      edges = p.edges + 1;
      left = cond (eqb (candidate_of row m e) 0) (p.left + 1) p.left;
      total = p.total + 1;
    }

-- what recording an edge asks of the numbers: there is room for it, and the counts stay small
abbrev pub Room : ℕ → ℕ → ℕ → ℕ → Progress → Type 0
Room m b e first p =
    (b < m) × (e < m) × (first ≤ p.edges) × (p.edges < m + max_graph_size)
    × (p.left ≤ 8589934592) × (p.total ≤ 8589934592)

-- the strips stand for a state: the candidates that were ever there, and the edges of the places
-- from the committed end up to, and without, top
pub record StandFor (row : List ℕ) (m top k : ℕ) (s : State) : Type 0 where
  pub marks : (x : ℕ) → x < m → member x s.known ≡ not (eqb (candidate_of row m x) 0)
  pub graph : (v : ℕ) → s.committed ≤ v → v < top → graph_in row m v ≡ graph_of s.edges v
  pub fits : (v : ℕ) → s.committed ≤ v → v < top → first_of row m v + count_of row m v ≤ k
  pub shown : (x : ℕ) → Memᴰ x s.candidates → Memᴰ x s.known

pub record Counts (p : Progress) (s : State) : Type 0 where
  pub edges : p.edges ≡ length s.edges
  pub left : p.left ≡ length s.candidates
  pub total : p.total ≡ s.count

-- what recording the words at b asks
pub record Here (text pool row : List ℕ) (m b : ℕ) (p : Progress) : Type 0 where
  pub sized : Sized row m
  pub size : m ≡ length text + 1
  pub inside : b < length text
  pub root_is : Readable pool 0
  pub flags_are : flags_in row m ≡ end_flags text
  pub few : p.edges ≤ max_graph_size + b
  pub left_few : p.left ≤ 4294967296
  pub total_few : p.total ≤ 4294967296
  pub none : count_of row m b ≡ 0

-- what it leaves alone: all before the first edges, first edges and numbers of other places, and
-- the cluster ends
pub record Alone (row row' : List ℕ) (m b : ℕ) : Type 0 where
  pub low : search_strips row' m ≡ search_strips row m
  pub others : (i : ℕ) → 3 * m ≤ i → i < 5 * m → (i ≡ first_cell m b → ⊥) → (i ≡ count_cell m b → ⊥)
      → get_or row' i 0 ≡ get_or row i 0
  pub flags : flags_in row' m ≡ flags_in row m

pub record After (row : List ℕ) (m b : ℕ) (r : Progress) (s : State) : Type 0 where
  pub stand : StandFor row m (b + 1) r.edges s
  pub counts : Counts r s

-- the words at b are recorded, whatever state the strips stand for
abbrev pub RecordsAll : List ℕ → List ℕ → List ℕ → List ℕ → ℕ → ℕ → Progress → Progress → Type 0
RecordsAll text pool row row' m b p r =
    (s : State) → StandFor row m b p.edges s → Counts p s → graph_of s.edges b ≡ []
    → After row' m b r (recorded_all b (word_ends (given_by text pool) b) s)
