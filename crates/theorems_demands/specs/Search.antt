-- THE PATH SEARCH NEVER FAILS.
use Rattle.std.specs.Prelude.{ℕ, ◌<◌, ◌≡◌, List, [], ◌∷◌, length}
use Rattle.newmm_rules.specs.Words.{Given, size}
use Rattle.newmm_rules.specs.Search.{Graph, path_to, Chain}
use Rattle.newmm_rules.specs.Cutting.{State, begin, graph_of, step1, turns}

-- The search from a to z finds a path of one edge or more, each of them an edge of the graph.
pub record Finds (graph : Graph) (a z : ℕ) : Type 0 where
  pub on : a < z
  pub some : 0 < length (path_to graph a z)
  pub chain : Chain graph a (path_to graph a z) z

-- Whenever step 2 comes in a plain cut, in any turn: after step 1 at the least candidate b exactly
-- one candidate c is left, and the search finds a path of recorded edges from the committed end to
-- it.
abbrev pub SearchFinds : Type 0
SearchFinds =
    (g : Given) (k b c : ℕ) (cs : List ℕ)
    → (turns k g begin).candidates ≡ b ∷ cs
    → b < size g
    → (step1 g b cs (turns k g begin)).candidates ≡ c ∷ []
    → Finds (graph_of (step1 g b cs (turns k g begin)).edges) (step1 g b cs (turns k g begin)).committed c
