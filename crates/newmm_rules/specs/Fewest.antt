-- 02, ticket 13: what is claimed about fewest words.
use Rattle.std.specs.Prelude.{ℕ, zero, suc, ◌+◌, ◌≤◌, ◌<◌, ◌≡◌, Bool, true, false, cond, length, ltb}
use mathlib.Core.List.{List, [], ◌∷◌, Memᴰ}
use Rattle.newmm_rules.specs.Words.{Given, size, word_ends}
use Rattle.newmm_rules.specs.Search.{path_to}
use Rattle.newmm_rules.specs.Cutting.{State, begin, graph_of, step1, turns}

-- a chain of dictionary words, each ending at a cluster end, from a to z: the ends of its words
pub data WordChain (g : Given) : ℕ → List ℕ → ℕ → Type 0 where
  stay : {a : ℕ} → WordChain g a [] a
  word : {a e z : ℕ} {es : List ℕ} → Memᴰ e (word_ends g a) → WordChain g e es z → WordChain g a (e ∷ es) z

-- step 1 of a turn is done: the words at the least candidate are recorded, and nothing is committed
-- yet
abbrev pub words_recorded : Given → List ℕ → State → State
words_recorded g [] s = s
words_recorded g (b ∷ cs) s = step1 g b cs s

abbrev pub recorded_in : ℕ → Given → State
recorded_in k g = words_recorded g (turns k g begin).candidates (turns k g begin)

-- the least candidate is below n
abbrev pub is_below : Given → List ℕ → Bool
is_below g [] = false
is_below g (b ∷ cs) = ltb b (size g)

-- two candidates or more are left: nothing is committed, and no edge is cleared
abbrev pub goes_on : List ℕ → Bool
goes_on [] = false
goes_on (c ∷ []) = false
goes_on (c ∷ d ∷ cs) = true

-- the starting places handled since the last clearing, when k turns are done
unfoldable pub handled_since : ℕ → Given → ℕ
handled_since zero g = 0
handled_since (suc k) g =
    cond (is_below g (turns k g begin).candidates)
    (cond (goes_on (recorded_in k g).candidates) (suc (handled_since k g)) 0)
    (handled_since k g)

-- Turn k joins two committed ends by a path search: its least candidate is below n, and c is the
-- only one left then.
pub record Joins (g : Given) (k c : ℕ) : Type 0 where
  pub place : ℕ
  pub others : List ℕ
  pub least : (turns k g begin).candidates ≡ place ∷ others
  pub below : place < size g
  pub only : (recorded_in k g).candidates ≡ c ∷ []

-- the two committed ends, the second of which is c, and the path between them
abbrev pub first_end : ℕ → Given → ℕ
first_end k g = (turns k g begin).committed

abbrev pub path_of : ℕ → Given → ℕ → List ℕ
path_of k g c = path_to (graph_of (recorded_in k g).edges) (first_end k g) c

-- FEWEST WORDS. If at most 50 edges were recorded between the clearings, no chain goes from the
-- first to the second with fewer words.
abbrev pub Fewest : Type 0
Fewest =
    (g : Given) (k c : ℕ)
    → Joins g k c
    → length (recorded_in k g).edges ≤ 50
    → (es : List ℕ)
    → WordChain g (first_end k g) es c
    → length (path_of k g c) ≤ length es

-- With v starting places handled there, the edges are at most 50 + v.
abbrev pub FewEdges : Type 0
FewEdges = (g : Given) (k c : ℕ) → Joins g k c → length (recorded_in k g).edges ≤ 50 + suc (handled_since k g)
