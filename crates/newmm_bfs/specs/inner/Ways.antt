-- Ways in the strips, by predecessors.
use Rattle.std.specs.Prelude.{ℕ, ◌+◌, ◌<◌, ◌≡◌, List, [], ◌∷◌, ◌++◌, length, take, drop}
use Rattle.newmm_rules.specs.Search.{path_to}
use Rattle.newmm_bfs.specs.inner.Strips.{graph_in, before}

-- the vertices after a on the way to x, by the predecessors
pub data Trace (pred : ℕ → ℕ) (a : ℕ) : ℕ → List ℕ → Type 0 where
  home : Trace pred a a []
  step : {v x : ℕ} {es ds : List ℕ} → v < x → pred x ≡ v + 1 → ds ≡ es ++ (x ∷ []) → Trace pred a v es
      → Trace pred a x ds

pub record Traced (row : List ℕ) (m start v : ℕ) : Type 0 where
  pub ends : List ℕ
  pub trace : Trace (before row m) start v ends

-- some way of k vertices to v
pub record TracedBy (row : List ℕ) (m v k : ℕ) : Type 0 where
  pub start : ℕ
  pub ends : List ℕ
  pub trace : Trace (before row m) start v ends
  pub size : k ≡ length ends

-- the way to v, and one edge more to the goal
pub record Reaches (row row' : List ℕ) (m start goal v : ℕ) : Type 0 where
  pub ends : List ℕ
  pub trace : Trace (before row' m) start v ends
  pub below : v < goal
  pub is : path_to (graph_in row m) start goal ≡ ends ++ (goal ∷ [])

-- r is how many vertices stand after the start on the way to v
abbrev pub LengthIs : List ℕ → ℕ → ℕ → ℕ → ℕ → Type 0
LengthIs row m start v r = (ends : List ℕ) → Trace (before row m) start v ends → r ≡ length ends

-- the k vertices of the way to v are written behind the first ends
abbrev pub PutIs : List ℕ → List ℕ → ℕ → ℕ → ℕ → ℕ → Type 0
PutIs row row' m v count k =
    (start : ℕ) (ends : List ℕ) → Trace (before row m) start v ends → k ≡ length ends
    → row' ≡ take count row ++ (ends ++ drop (count + k) row)
