-- What plain cutting asks of the row that it is lent, and what it gives.
use Rattle.std.specs.Prelude.{ℕ, suc, ◌+◌, ◌*◌, ◌-◌, ◌≤◌, ◌<◌, ◌≡◌, List, ◌++◌, length, get_or, take, drop, replicate}
use Rattle.newmm_rules.specs.Words.{Given}
use Rattle.newmm_rules.specs.Cutting.{Cut, cut}
use Rattle.newmm_bfs.specs.inner.Strips.{Sized, Start, cells_for, edge_cell, first_of, count_of, candidate_of, flags_in}
use Rattle.tcc.specs.Flags.{end_flags}
use Rattle.trie_pool.specs.inner.Sound.{Readable}
use Rattle.newmm_rules.specs.declared.Ends.{Ends}

-- the first candidate above b, or m
pub record NextIs (row : List ℕ) (m b r : ℕ) : Type 0 where
  pub above : b < r
  pub upto : r ≤ m
  pub none : (x : ℕ) → b < x → x < r → candidate_of row m x ≡ 0
  pub found : r < m → candidate_of row m r ≡ 0 → ⊥

-- what one token from b asks
pub record TokenAt (text pool row : List ℕ) (m b ends : ℕ) : Type 0 where
  pub sized : Sized row m
  pub size : m ≡ length text + 1
  pub inside : b < length text
  pub root_is : Readable pool 0
  pub flags_are : flags_in row m ≡ end_flags text
  pub room : ends < m

-- the edges of v are the first that stand, and the first of them leads to the goal
pub record FirstEdge (row : List ℕ) (m v goal : ℕ) : Type 0 where
  pub first : first_of row m v ≡ 0
  pub some : 0 < count_of row m v
  pub to : get_or row (edge_cell m 0) 0 ≡ goal

-- what the path to the one candidate left asks: words from the committed end up to b are recorded
pub record OneLeft (row : List ℕ) (m committed b ends : ℕ) : Type 0 where
  pub goal : ℕ
  pub next : NextIs row m b goal
  pub start : Start row m committed goal
  pub edge : b ≡ committed → FirstEdge row m committed goal
  pub few : ends ≤ committed

-- a text, the cells of a dictionary, and as many cells as a text of that length takes, all 0
pub record Fresh (text pool row : List ℕ) : Type 0 where
  pub short : length text ≤ 65535
  pub root_is : Readable pool 0
  pub size : length row ≡ cells_for (length text + 1)
  pub blank : (k : ℕ) → get_or row k 0 ≡ 0

-- the same, at the front of a row that may be longer
pub record Lent (text pool row : List ℕ) : Type 0 where
  pub short : length text ≤ 65535
  pub root_is : Readable pool 0
  pub room : cells_for (length text + 1) ≤ length row
  pub blank : (k : ℕ) → k < cells_for (length text + 1) → get_or row k 0 ≡ 0

-- the ends stand at the front, and the flags of the cluster ends in their strip
pub record Marked (g : Given) (text row' : List ℕ) (r : Ends) : Type 0 where
  pub ends : r.ends ≡ length (cut g).ends
  pub edges : r.edges ≡ (cut g).edges
  pub size : length row' ≡ cells_for (length text + 1)
  pub few : r.ends ≤ length text
  pub front : take r.ends row' ≡ (cut g).ends
  pub flags_are : flags_in row' (length text + 1) ≡ end_flags text

-- the ends stand at the front, and the rest is as it was
pub record Done (g : Given) (row row' : List ℕ) (r : Ends) : Type 0 where
  pub ends : r.ends ≡ length (cut g).ends
  pub edges : r.edges ≡ (cut g).edges
  pub is : row' ≡ (cut g).ends ++ drop (length (cut g).ends) row
