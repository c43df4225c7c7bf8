-- Plain cutting, in the steps of 01.
use Rattle.std.specs.Prelude.{ℕ, zero, suc, Bool, cond, List, [], ◌∷◌, ◌++◌, length, ltb, eqb}
use Rattle.newmm_rules.specs.Limits.{max_graph_size}
use Rattle.newmm_rules.specs.Positions.{member, inserted}
use Rattle.newmm_rules.specs.Words.{Given, size, word_ends}
use Rattle.newmm_rules.specs.Search.{Graph, path_to}
use Rattle.newmm_rules.specs.NonDictionary.{token_end}

pub record Edge : Type 0 where
  pub from : ℕ
  pub to : ℕ

-- The candidates left, rising, and all that ever were candidates; the committed end; the edges
-- since the last clearing, in recorded order; the token ends so far; and how many edges were
-- recorded in the whole call.
pub record State : Type 0 where
  pub candidates : List ℕ
  pub known : List ℕ
  pub committed : ℕ
  pub edges : List Edge
  pub ends : List ℕ
  pub count : ℕ

-- Candidates start as {0}, the committed end at 0.
abbrev pub begin : State
begin = record { candidates = 0 ∷ []; known = 0 ∷ []; committed = 0; edges = []; ends = []; count = 0 }

-- Step 1. Record an edge from b, and add the end to the candidates if it was never there.
unfoldable pub recorded : ℕ → ℕ → State → State
recorded b e s =
    record {
      candidates = cond (member e s.known) s.candidates (inserted e s.candidates);
      known = e ∷ s.known;
      committed = s.committed;
      edges = s.edges ++ (record { from = b; to = e } ∷ []);
      ends = s.ends;
      count = suc s.count;
    }

-- For each word, shortest first; stop after this edge if more than 50 edges stand since the last
-- clearing.
unfoldable pub recorded_all : ℕ → List ℕ → State → State
recorded_all b [] s = s
recorded_all b (e ∷ es) s =
    cond (ltb max_graph_size (length (recorded b e s).edges)) (recorded b e s) (recorded_all b es (recorded b e s))

-- the ends of the edges from v, in recorded order
unfoldable pub graph_of : List Edge → Graph
graph_of [] v = []
graph_of (e ∷ es) v = cond (eqb e.from v) (e.to ∷ graph_of es v) (graph_of es v)

-- The token ends so far get new ones, the last of them e. It is committed and the sole candidate;
-- edges are cleared.
abbrev pub commit : List ℕ → ℕ → State → State
commit path e s =
    record {
      candidates = e ∷ [];
      known = e ∷ s.known;
      committed = e;
      edges = [];
      ends = s.ends ++ path;
      count = s.count;
    }

-- Step 2, exactly one candidate left: search breadth first from the committed end to it. Step 3,
-- none left: one token from b, by the non-dictionary rule. Step 4: otherwise go on.
unfoldable pub settled : Given → ℕ → List ℕ → State → State
settled g b [] s = commit (token_end g b ∷ []) (token_end g b) s
settled g b (c ∷ []) s = commit (path_to (graph_of s.edges) s.committed c) c s
settled g b (c ∷ d ∷ cs) s = s

abbrev pub settle : Given → ℕ → State → State
settle g b s = settled g b s.candidates s

-- b is taken out, and cs are left
abbrev pub taken_out : List ℕ → State → State
taken_out cs s =
    record {
      candidates = cs;
      known = s.known;
      committed = s.committed;
      edges = s.edges;
      ends = s.ends;
      count = s.count;
    }

-- the state after step 1 at the least candidate b, with cs left
abbrev pub step1 : Given → ℕ → List ℕ → State → State
step1 g b cs s = recorded_all b (word_ends g b) (taken_out cs s)

-- While the least candidate is below n, take it out as b.
unfoldable pub turn : Given → List ℕ → State → State
turn g [] s = s
turn g (b ∷ cs) s = cond (ltb b (size g)) (settle g b (step1 g b cs s)) s

-- k turns, as far as there are so many
unfoldable pub turns : ℕ → Given → State → State
turns zero g s = s
turns (suc k) g s = turns k g (turn g s.candidates s)

-- The result: the ends, and the number of edges recorded in the whole call.
pub record Cut : Type 0 where
  pub ends : List ℕ
  pub edges : ℕ

-- The least candidate rises with each turn, so n turns are enough.
unfoldable pub cut : Given → Cut
cut g = record { ends = (turns (size g) g begin).ends; edges = (turns (size g) g begin).count }
