-- The stretches of a plain cut: what stands between two committed ends, one after the other.
use Rattle.std.specs.Prelude.{ℕ, zero, suc, ◌+◌, ◌≤◌, ◌≡◌, Bool, true, false, cond, List, [], ◌∷◌, ◌++◌, length, ltb}
use Rattle.newmm_rules.specs.Words.{Given, size}
use Rattle.newmm_rules.specs.Search.{path_to}
use Rattle.newmm_rules.specs.NonDictionary.{token_end}
use Rattle.newmm_rules.specs.Cutting.{State, begin, graph_of, turns}
use Rattle.newmm_rules.specs.Fewest.{WordChain, words_recorded, handled_since}

-- The two committed ends; the token ends from behind the first to the second; whether a path search
-- joined them, or the non-dictionary rule gave the one token; the edges recorded and the starting
-- places handled between the clearings.
pub record Stretch : Type 0 where
  pub first : ℕ
  pub second : ℕ
  pub ends : List ℕ
  pub searched : Bool
  pub edges : ℕ
  pub places : ℕ

-- what is committed at b: steps 2 and 3; step 4 commits nothing. v places were handled before b.
abbrev pub committed_at : ℕ → Given → ℕ → List ℕ → State → List Stretch
committed_at v g b [] s =
    record {
      first = s.committed;
      second = token_end g b;
      ends = token_end g b ∷ [];
      searched = false;
      edges = length s.edges;
      places = suc v;
    }
    ∷ []
committed_at v g b (c ∷ []) s =
    record {
      first = s.committed;
      second = c;
      ends = path_to (graph_of s.edges) s.committed c;
      searched = true;
      edges = length s.edges;
      places = suc v;
    }
    ∷ []
committed_at v g b (c ∷ d ∷ cs) s = []

-- what a turn at the least candidate commits, if that is below n
abbrev pub committed_by : ℕ → Given → List ℕ → State → List Stretch
committed_by v g [] s = []
committed_by v g (b ∷ cs) s =
    cond (ltb b (size g)) (committed_at v g b (words_recorded g (b ∷ cs) s).candidates (words_recorded g (b ∷ cs) s)) []

-- the stretches that the first k turns commit
unfoldable pub stretches_in : ℕ → Given → List Stretch
stretches_in zero g = []
stretches_in (suc k) g =
    stretches_in k g ++ committed_by (handled_since k g) g (turns k g begin).candidates (turns k g begin)

abbrev pub stretches : Given → List Stretch
stretches g = stretches_in (size g) g

-- the ends of all stretches, one behind the other, and the sum of their edges
abbrev pub ends_of : List Stretch → List ℕ
ends_of [] = []
ends_of (s ∷ ss) = s.ends ++ ends_of ss

abbrev pub edges_of : List Stretch → ℕ
edges_of [] = 0
edges_of (s ∷ ss) = s.edges + edges_of ss

-- each stretch starts where the one before it ends
pub data Joined : ℕ → List Stretch → ℕ → Type 0 where
  none : {a : ℕ} → Joined a [] a
  one : {s : Stretch} {ss : List Stretch} {z : ℕ} → Joined s.second ss z → Joined s.first (s ∷ ss) z

-- FEWEST WORDS, of a stretch. If at most 50 edges were recorded there, no chain of dictionary
-- words, each ending at a cluster end, goes from its first committed end to its second with fewer
-- words than it has. With v starting places handled there, the edges are at most 50 + v.
pub record FewestWords (g : Given) (s : Stretch) : Type 0 where
  pub chain : WordChain g s.first s.ends s.second
  pub fewest : s.edges ≤ 50 → (es : List ℕ) → WordChain g s.first es s.second → length s.ends ≤ length es
  pub few_edges : s.edges ≤ 50 + s.places

abbrev pub Each : (Stretch → Type 0) → List Stretch → Type 0
Each P [] = Unit {0}
Each P (s ∷ ss) = P s × Each P ss

-- The ends of a plain cut are those of its stretches, and its edge count the sum of theirs. They go
-- from 0 to n, and each that a search joined has the fewest words.
pub record InStretches (g : Given) (ends : List ℕ) (edges : ℕ) : Type 0 where
  pub ends_are : ends ≡ ends_of (stretches g)
  pub edges_are : edges ≡ edges_of (stretches g)
  pub joined : Joined 0 (stretches g) (size g)
  pub fewest : Each (λ s. s.searched ≡ true → FewestWords g s) (stretches g)
