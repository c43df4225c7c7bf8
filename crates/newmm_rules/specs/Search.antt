-- The breadth-first search of step 2, over a graph that gives the ends of the edges from a vertex,
-- in recorded order.
use Rattle.std.specs.Prelude.{ℕ, zero, suc, ◌-◌, Bool, cond, List, [], ◌∷◌, ◌++◌, eqb}
use Rattle.newmm_rules.specs.Positions.{member, In}

abbrev pub Graph : Type 0
Graph = ℕ → List ℕ

-- A way from the start: the vertex that it reaches, and its vertices after the first.
pub record Way : Type 0 where
  pub tip : ℕ
  pub ends : List ℕ

abbrev pub farther : Way → ℕ → Way
farther w x = record { tip = x; ends = w.ends ++ (x ∷ []) }

-- The ways that wait, and every vertex that was ever queued.
pub record Queue : Type 0 where
  pub ways : List Way
  pub seen : List ℕ

-- each vertex is queued once
unfoldable pub queued : Way → ℕ → Queue → Queue
queued w x q = cond (member x q.seen) q (record { ways = q.ways ++ (farther w x ∷ []); seen = x ∷ q.seen })

-- after the edges from a vertex: the goal is reached by this way, or the search goes on
pub data Passed : Type 0 where
  reached : Way → Passed
  onward : Queue → Passed

-- the edges in recorded order; it returns at the first edge that reaches the goal
unfoldable pub passed : ℕ → Way → List ℕ → Queue → Passed
passed goal w [] q = onward q
passed goal w (x ∷ xs) q = cond (eqb x goal) (reached (farther w x)) (passed goal w xs (queued w x q))

unfoldable pub after : Passed → (Queue → List ℕ) → List ℕ
after (reached w) go = w.ends
after (onward q) go = go q

-- at most k ways are taken off the queue
unfoldable pub searched : ℕ → Graph → ℕ → List Way → List ℕ → List ℕ
searched zero graph goal ways seen = []
searched (suc k) graph goal [] seen = []
searched (suc k) graph goal (w ∷ ways) seen =
    after (passed goal w (graph w.tip) (record { ways = ways; seen = seen }))
    (λ (q : Queue). searched k graph goal q.ways q.seen)

-- The vertices after the first on the way that the search finds. Vertices lie between the start and
-- the goal and each is queued once, so as many turns are enough as there are positions between
-- them.
unfoldable pub path_to : Graph → ℕ → ℕ → List ℕ
path_to graph start goal = searched (goal - start) graph goal (record { tip = start; ends = [] } ∷ []) (start ∷ [])

-- the vertices after a on a way along edges to z
pub data Chain (graph : Graph) : ℕ → List ℕ → ℕ → Type 0 where
  stay : {a : ℕ} → Chain graph a [] a
  along : {a x z : ℕ} {xs : List ℕ} → In x (graph a) → Chain graph x xs z → Chain graph a (x ∷ xs) z
