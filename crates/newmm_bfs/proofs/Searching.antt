-- What holds while the search goes on, over plain values. Assumes nothing.
use Prim.Native.Nat.{ℕ, zero, suc, ◌+◌, ◌*◌, ◌-◌, ◌≤◌, ◌<◌}
use native.Mathlib.Omega.{arith}
use native.Mathlib.Numerals.{add-one}
use native.Mathlib.Decide.{dec_lt}
use mathlib.Core.Path.{◌≡◌, refl, sym, ◌∙◌, ap, subst}
use mathlib.Core.Bool.{Bool, true, false, not}
use mathlib.Core.List.{List, [], ◌∷◌, ◌++◌}
use lib.ListN.{length, get_or, take, drop, length-append, length-drop}
use lib.Seq.{drop-cons, get_or-take, get_or-drop, length-take-le}
use lib.ListN.{drop_of_length-le}
use lib.Dec.{eqb}
use borrow.Author.Tests.{eq-eqb, ne_eqb, eqb-true, eqb-false}
use Rattle.newmm_rules.specs.Positions.{any, member, how_many}
use Rattle.newmm_rules.specs.Search.{Graph, Way, farther, Queue, queued, Passed, passed, after, searched, path_to}
use Rattle.newmm_rules.proofs.Counting.{many_all}
use Rattle.newmm_bfs.specs.inner.Strips.{Sized, graph_in, before, unmarked, tail_after, row_after, Edges, Start, Kept}
use Rattle.newmm_bfs.specs.inner.Ways.{Trace, home, step, Reaches}
use Rattle.newmm_bfs.proofs.Strips.{above_same, graph_same, after_old, marked, after_new, size_new, low_new, high_new, before_new, before_other, queue_new, queue_old, marked_less}

-- the cells that a search doesn't touch
pub record Agree (m : ℕ) (row row' : List ℕ) : Type 0 where
  pub size : length row' ≡ length row
  pub low : take m row' ≡ take m row
  pub high : drop (3 * m) row' ≡ drop (3 * m) row

pub agree_same : (m : ℕ) (row : List ℕ) → Agree m row row
agree_same m row = record { size = refl; low = refl; high = refl }

pub agree_on : {m : ℕ} {row₀ row row' : List ℕ} → Agree m row₀ row → Agree m row row' → Agree m row₀ row'
agree_on a b = record { size = b.size ∙ a.size; low = b.low ∙ a.low; high = b.high ∙ a.high }

-- numbers that the indices need: as many vertices are queued as are marked, and none from the goal
-- on
pub record Good (row : List ℕ) (m a goal tail : ℕ) : Type 0 where
  pub sized : Sized row m
  pub order : a < goal
  pub inside : goal < m
  pub edges : (v : ℕ) → a ≤ v → v < goal → Edges row m goal v
  pub room : tail + how_many (unmarked row m) (goal - a) a ≡ goal - a
  pub later : (x : ℕ) → goal ≤ x → x < m → before row m x ≡ 0

-- a way that waits stands at p in the queue, and its vertices are traced by the predecessors
record Stands (row : List ℕ) (m a goal p : ℕ) (w : Way) : Type 0 where
  there : get_or row p 0 ≡ w.tip
  low : a ≤ w.tip
  below : w.tip < goal
  trace : Trace (before row m) a w.tip w.ends

data Line (row : List ℕ) (m a goal : ℕ) : ℕ → List Way → Type 0 where
  end : {p : ℕ} → Line row m a goal p []
  then : {p : ℕ} {w : Way} {ws : List Way} → Stands row m a goal p w → Line row m a goal (suc p) ws → Line row m a goal p (w ∷ ws)

-- the queue that the rows hold from head to tail
pub record Holds (row : List ℕ) (m a goal head tail : ℕ) (q : Queue) : Type 0 where
  line : Line row m a goal (m + head) q.ways
  pub last : head + length q.ways ≡ tail
  marks : (x : ℕ) → a ≤ x → x < goal → member x q.seen ≡ not (unmarked row m x)

-- ---- traces and lines in a row with one vertex more

trace_keep : {f g : ℕ → ℕ} {a x : ℕ} {es : List ℕ} → ((y : ℕ) → (f y ≡ 0 → ⊥) → g y ≡ f y) → Trace f a x es → Trace g a x es
trace_keep h home = home
trace_keep h (step {v = v} {x = x} l e d t) = step {v = v} l (h x (λ z. omega arith) ∙ e) d (trace_keep h t)

line_keep : {row row' : List ℕ} {m a goal p : ℕ} {ws : List Way} → ((y : ℕ) → (before row m y ≡ 0 → ⊥) → before row' m y ≡ before row m y)
    → ((i : ℕ) → p ≤ i → i < p + length ws → get_or row' i 0 ≡ get_or row i 0) → Line row m a goal p ws → Line row' m a goal p ws
line_keep h k end = end
line_keep h k (then {p = p} s l) =
    then (record { there = k p (omega arith) (omega arith) ∙ s.there; low = s.low; below = s.below; trace = trace_keep h s.trace })
    (line_keep h (λ i u v. k i (omega arith) (omega arith)) l)

line_more : {row : List ℕ} {m a goal p : ℕ} {ws : List Way} {w : Way} → Line row m a goal p ws → (e : ℕ) → e ≡ p + length ws → Stands row m a goal e w → Line row m a goal p (ws ++ (w ∷ []))
line_more {row} {m} {a} {goal} {p} {w = w} end e q s = then (subst (λ (i : ℕ). Stands row m a goal i w) (let z : e ≡ p = omega arith in z) s) end
line_more (then t l) e q s = then t (line_more l e (omega arith) s)

-- ---- one vertex more

edges_same : {row row' : List ℕ} {m goal v : ℕ} → drop (3 * m) row' ≡ drop (3 * m) row → length row' ≡ length row → Edges row m goal v → Edges row' m goal v
edges_same {row} {row'} {m} {goal} {v} high size e =
    let f = above_same row row' m high (3 * m + v) (omega arith) in
    let k = above_same row row' m high (4 * m + v) (omega arith) in
    record {
      fits = omega (arith, e.fits);
      on = λ j h.
          let t : get_or row' (7 * m + get_or row' (3 * m + v) 0 + j) 0 ≡ get_or row (7 * m + get_or row (3 * m + v) 0 + j) 0 =
          above_same row row' m high (7 * m + get_or row' (3 * m + v) 0 + j) (omega arith) ∙ ap (λ (i : ℕ). get_or row (7 * m + i + j) 0) f
          in
          let o = e.on j (omega arith) in
          (omega (arith, o.0), omega (arith, o.1));
    }

module _ (row : List ℕ) (m a goal tail v x : ℕ) (good : Good row m a goal tail) (low : a ≤ x) (below : x < goal) (new : before row m x ≡ 0) where
  abbrev row' : List ℕ
  row' = marked row m tail v x

  tail_below : tail < m
  tail_below = omega (arith, good.room, good.inside, good.order)

  x_below : x < m
  x_below = omega (arith, good.inside)

  less : suc (how_many (unmarked row' m) (goal - a) a) ≡ how_many (unmarked row m) (goal - a) a
  less = marked_less row m tail v x good.sized tail_below x_below (goal - a) a new low (omega arith)

  size_same : length row' ≡ length row
  size_same = size_new row m tail v x good.sized tail_below x_below

  pub agree_new : Agree m row row'
  agree_new = record { size = size_same; low = low_new row m tail v x good.sized tail_below x_below; high = high_new row m tail v x good.sized tail_below x_below }

  pub good_new : Good row' m a goal (tail + 1)
  good_new =
      record {
        sized = record { small = good.sized.small; long = omega (arith, size_same, good.sized.long) };
        order = good.order;
        inside = good.inside;
        edges = λ u l b. edges_same agree_new.high size_same (good.edges u l b);
        room = omega (arith, less, good.room);
        later = λ y l b. before_other row m tail v x good.sized tail_below x_below y (λ e. omega arith) ∙ good.later y l b;
      }

  marks_keep : (y : ℕ) → (before row m y ≡ 0 → ⊥) → before row' m y ≡ before row m y
  marks_keep y n = before_other row m tail v x good.sized tail_below x_below y (λ e. n (ap (λ (i : ℕ). before row m i) e ∙ new))

  marks_new : (q : Queue) → ((y : ℕ) → a ≤ y → y < goal → member y q.seen ≡ not (unmarked row m y)) → (y : ℕ) → a ≤ y → y < goal → member y (x ∷ q.seen) ≡ not (unmarked row' m y)
  unfolding any
  marks_new q h y l b = go (eqb y x) refl
    where
      go : (t : Bool) → eqb y x ≡ t → member y (x ∷ q.seen) ≡ not (unmarked row' m y)
      go true e =
          let z = eqb-true y x e in
          let n : before row' m y ≡ v + 1 = ap (λ (i : ℕ). before row' m i) z ∙ before_new row m tail v x good.sized tail_below x_below in
          simp (e, ne_eqb (before row' m y) 0 (λ k. omega arith))
      go false e =
          let n = eqb-false y x e in
          simp e (h y l b ∙ ap (λ (i : ℕ). not (eqb i 0)) (sym (before_other row m tail v x good.sized tail_below x_below y n)))

  -- a way to x goes to the end of the queue
  pub holds_new : (head : ℕ) (q : Queue) (es : List ℕ) → Holds row m a goal head tail q → Trace (before row' m) a x es
      → Holds row' m a goal head (tail + 1) (record { ways = q.ways ++ (record { tip = x; ends = es } ∷ []); seen = x ∷ q.seen })
  holds_new head q es h t =
      record {
        line = line_more (line_keep marks_keep (λ i u b. cells i u b) h.line) (m + tail) (omega (arith, h.last))
            (record { there = queue_new row m tail v x good.sized tail_below x_below; low = low; below = below; trace = t });
        last = omega (arith, h.last, length-append q.ways (record { tip = x; ends = es } ∷ []));
        marks = marks_new q h.marks;
      }
    where
      cells : (i : ℕ) → m + head ≤ i → i < m + head + length q.ways → get_or row' i 0 ≡ get_or row i 0
      cells i u b =
          let e : m + (i - m) ≡ i = omega arith in
          ap (λ (k : ℕ). get_or row' k 0) (sym e) ∙ queue_old row m tail v x good.sized tail_below x_below (i - m) (omega (arith, h.last)) ∙ ap (λ (k : ℕ). get_or row k 0) e

-- ---- the search

-- between two vertices: what the spec's search comes to from here on
pub record Searching (row : List ℕ) (m a goal head tail : ℕ) : Type 0 where
  pub good : Good row m a goal tail
  pub q : Queue
  pub k : ℕ
  pub holds : Holds row m a goal head tail q
  pub enough : goal - a ≤ head + k
  pub rest : path_to (graph_in row m) a goal ≡ searched k (graph_in row m) goal q.ways q.seen

-- between two edges of v, of which j are read
pub record Reading (row : List ℕ) (m a goal head tail v first count j : ℕ) : Type 0 where
  pub good : Good row m a goal tail
  pub from : first ≡ 7 * m + get_or row (3 * m + v) 0
  pub many : count ≡ get_or row (4 * m + v) 0
  pub some : j ≤ count
  pub w : Way
  pub tip : w.tip ≡ v
  pub low : a ≤ v
  pub below : v < goal
  pub trace : Trace (before row m) a v w.ends
  pub q : Queue
  pub k : ℕ
  pub holds : Holds row m a goal (head + 1) tail q
  pub enough : goal - a ≤ head + 1 + k
  pub rest : path_to (graph_in row m) a goal
      ≡ after (passed goal w (drop j (graph_in row m v)) q) (λ (q : Queue). searched k (graph_in row m) goal q.ways q.seen)

-- the start is queued
module _ (row : List ℕ) (m a goal : ℕ) (s : Start row m a goal) where
  first_good : Good row m a goal 0
  first_good =
      record {
        sized = s.sized;
        order = s.order;
        inside = s.inside;
        edges = s.edges;
        room = omega (arith, many_all (unmarked row m) (goal - a) a (λ x l b. eq-eqb (before row m x) 0 (s.fresh x l (let i = s.inside in omega arith))));
        later = λ x l b. s.fresh x (let o = s.order in omega arith) b;
      }

  first_holds : Holds row m a goal 0 0 (record { ways = []; seen = [] })
  unfolding any
  first_holds =
      record { line = end; last = refl; marks = λ x l b. simp (eq-eqb (before row m x) 0 (s.fresh x l (let i = s.inside in omega arith))) }

  a_new : before row m a ≡ 0
  a_new = s.fresh a (omega arith) (let o = s.order in let i = s.inside in omega arith)

  pub begin : Searching (marked row m 0 a a) m a goal 0 (0 + 1)
  unfolding path_to
  begin =
      let o = s.order in
      record {
        good = good_new row m a goal 0 a a first_good (omega arith) o a_new;
        q = record { ways = record { tip = a; ends = [] } ∷ []; seen = a ∷ [] };
        k = goal - a;
        holds = holds_new row m a goal 0 a a first_good (omega arith) o a_new 0 (record { ways = []; seen = [] }) [] first_holds home;
        enough = omega arith;
        rest = refl;
      }

  pub begun : (row' : List ℕ) (tail : ℕ) → tail ≡ tail_after row m 0 a → row' ≡ row_after row m 0 a a → Searching row' m a goal 0 tail × Agree m row row'
  begun row' tail e f =
      let n = after_new row m 0 a a a_new in (
        subst (λ (l : List ℕ). Searching l m a goal 0 tail) (sym (f ∙ n.1)) (subst (λ (t : ℕ). Searching (marked row m 0 a a) m a goal 0 t) (sym (e ∙ n.0)) begin),
        subst (λ (l : List ℕ). Agree m row l) (sym (f ∙ n.1)) (agree_new row m a goal 0 a a first_good (omega arith) s.order a_new),
      )

line_first : {row : List ℕ} {m a goal p : ℕ} {w : Way} {ws : List Way} → Line row m a goal p (w ∷ ws) → Stands row m a goal p w × Line row m a goal (suc p) ws
line_first (then s l) = (s, l)

-- the first vertex of the queue is taken off
module _ (row : List ℕ) (m a goal head tail : ℕ) (here : head < tail) (good : Good row m a goal tail) where
  front_of : (ways : List Way) (seen : List ℕ) → Holds row m a goal head tail (record { ways = ways; seen = seen }) → (a ≤ get_or row (m + head) 0) × (get_or row (m + head) 0 < goal)
  front_of [] seen h = absurd (omega (arith, h.last))
  front_of (w ∷ ways) seen h = let s = (line_first h.line).0 in (omega (arith, s.there, s.low), omega (arith, s.there, s.below))

  open_at : (v first count k : ℕ) (ways : List Way) (seen : List ℕ) → v ≡ get_or row (m + head) 0 → first ≡ 7 * m + get_or row (3 * m + v) 0 → count ≡ get_or row (4 * m + v) 0
      → Holds row m a goal head tail (record { ways = ways; seen = seen }) → goal - a ≤ head + k → path_to (graph_in row m) a goal ≡ searched k (graph_in row m) goal ways seen
      → Reading row m a goal head tail v first count 0
  unfolding searched
  open_at v first count k [] seen e f c h n r = absurd (omega (arith, h.last))
  open_at v first count zero (w ∷ ways) seen e f c h n r = absurd (omega (arith, good.room))
  open_at v first count (suc k) (w ∷ ways) seen e f c h n r =
      let l = line_first h.line in
      let t : w.tip ≡ v = sym l.0.there ∙ sym e in
      let p : suc (m + head) ≡ m + (head + 1) = omega arith in
      record {
        good = good;
        from = f;
        many = c;
        some = omega arith;
        w = w;
        tip = t;
        low = omega (arith, l.0.low);
        below = omega (arith, l.0.below);
        trace = subst (λ (x : ℕ). Trace (before row m) a x w.ends) t l.0.trace;
        q = record { ways = ways; seen = seen };
        k = k;
        holds = record { line = subst (λ (i : ℕ). Line row m a goal i ways) p l.1; last = omega (arith, h.last); marks = h.marks };
        enough = omega arith;
        rest = r ∙ ap (λ (x : ℕ). after (passed goal w (graph_in row m x) (record { ways = ways; seen = seen })) (λ (q : Queue). searched k (graph_in row m) goal q.ways q.seen)) t;
      }

pub front : {row : List ℕ} {m a goal head tail : ℕ} (s : Searching row m a goal head tail) → head < tail → (a ≤ get_or row (m + head) 0) × (get_or row (m + head) 0 < goal)
front {row} {m} {a} {goal} {head} {tail} s h = front_of row m a goal head tail h s.good s.q.ways s.q.seen s.holds

pub taken : {row : List ℕ} {m a goal head tail v first count : ℕ} (s : Searching row m a goal head tail) → head < tail → v ≡ get_or row (m + head) 0 → first ≡ 7 * m + get_or row (3 * m + v) 0
    → count ≡ get_or row (4 * m + v) 0 → Reading row m a goal head tail v first count 0
taken {row} {m} {a} {goal} {head} {tail} {v} {first} {count} s h e f c =
    open_at row m a goal head tail h s.good v first count s.k s.q.ways s.q.seen e f c s.holds s.enough s.rest

-- with no vertex left, there is no way
none_left : (k : ℕ) (graph : Graph) (goal : ℕ) (ways : List Way) (seen : List ℕ) → length ways ≡ 0 → searched k graph goal ways seen ≡ []
unfolding searched
none_left zero graph goal ways seen e = refl
none_left (suc k) graph goal [] seen e = refl
none_left (suc k) graph goal (w ∷ ways) seen e = absurd (omega arith)

pub exhausted : {row : List ℕ} {m a goal head tail : ℕ} (s : Searching row m a goal head tail) → tail ≤ head → path_to (graph_in row m) a goal ≡ []
exhausted {row} {m} {a} {goal} s h = s.rest ∙ none_left s.k (graph_in row m) goal s.q.ways s.q.seen (omega (arith, s.holds.last))

-- ---- an edge

module _ {row : List ℕ} {m a goal head tail v first count j : ℕ} (r : Reading row m a goal head tail v first count j) where
  edges_fit : first + count ≤ length row
  edges_fit = omega (arith, r.from, r.many, (r.good.edges v r.low r.below).fits)

  pub index : j < count → first + j < length row
  index h = omega (arith, edges_fit)

  graph_size : length (graph_in row m v) ≡ count
  unfolding graph_in
  graph_size = length-take-le (get_or row (4 * m + v) 0) (drop (7 * m + get_or row (3 * m + v) 0) row) (omega (arith, length-drop (7 * m + get_or row (3 * m + v) 0) row, (r.good.edges v r.low r.below).fits)) ∙ sym r.many

  graph_at : j < count → get_or (graph_in row m v) j 0 ≡ get_or row (first + j) 0
  unfolding graph_in
  graph_at h =
      get_or-take (get_or row (4 * m + v) 0) (drop (7 * m + get_or row (3 * m + v) 0) row) j 0 (omega (arith, r.many))
      ∙ get_or-drop (7 * m + get_or row (3 * m + v) 0) row j 0 ∙ ap (λ (i : ℕ). get_or row (i + j) 0) (sym r.from)

  pub spans : j < count → (x : ℕ) → x ≡ get_or row (first + j) 0 → (v < x) × (x ≤ goal)
  spans h x e =
      let o = (r.good.edges v r.low r.below).on j (omega (arith, r.many)) in
      let t : get_or row (first + j) 0 ≡ get_or row (7 * m + get_or row (3 * m + v) 0 + j) 0 = ap (λ (i : ℕ). get_or row (i + j) 0) r.from in
      (omega (arith, o.0), omega (arith, o.1))

  cut_off : j < count → (x : ℕ) → x ≡ get_or row (first + j) 0 → drop j (graph_in row m v) ≡ x ∷ drop (j + 1) (graph_in row m v)
  cut_off h x e =
      drop-cons (graph_in row m v) j 0 (omega (arith, graph_size))
      ∙ ap (λ (y : ℕ). y ∷ drop (suc j) (graph_in row m v)) (graph_at h ∙ sym e)
      ∙ ap (λ (i : ℕ). x ∷ drop i (graph_in row m v)) (sym (add-one j))

  abbrev go_on : Passed → List ℕ
  go_on p = after p (λ (q : Queue). searched r.k (graph_in row m) goal q.ways q.seen)

  hit_pass : (x : ℕ) (xs : List ℕ) → x ≡ goal → go_on (passed goal r.w (x ∷ xs) r.q) ≡ r.w.ends ++ (goal ∷ [])
  unfolding passed after
  hit_pass x xs e = simp (eq-eqb x goal e) (ap (λ (y : ℕ). r.w.ends ++ (y ∷ [])) e)

  -- it reaches the goal
  pub hit : (row₀ : List ℕ) → Agree m row₀ row → j < count → (x : ℕ) → x ≡ get_or row (first + j) 0 → x ≡ goal → Reaches row₀ row m a goal v
  hit row₀ g h x e f =
      record {
        ends = r.w.ends;
        trace = r.trace;
        below = r.below;
        is = ap (λ (G : Graph). path_to G a goal) (sym (λ i u. graph_same row₀ row m g.high u i)) ∙ r.rest
            ∙ ap (λ (l : List ℕ). go_on (passed goal r.w l r.q)) (cut_off h x e) ∙ hit_pass x (drop (j + 1) (graph_in row m v)) f;
      }

  pass_on : (x : ℕ) (xs : List ℕ) → (x ≡ goal → ⊥) → passed goal r.w (x ∷ xs) r.q ≡ passed goal r.w xs (queued r.w x r.q)
  unfolding passed
  pass_on x xs n = simp (ne_eqb x goal n)

  rest_on : j < count → (x : ℕ) → x ≡ get_or row (first + j) 0 → (x ≡ goal → ⊥) → path_to (graph_in row m) a goal ≡ go_on (passed goal r.w (drop (j + 1) (graph_in row m v)) (queued r.w x r.q))
  rest_on h x e n = r.rest ∙ ap (λ (l : List ℕ). go_on (passed goal r.w l r.q)) (cut_off h x e) ∙ ap go_on (pass_on x (drop (j + 1) (graph_in row m v)) n)

  -- its end was queued before
  known : (x : ℕ) → v < x → x < goal → (before row m x ≡ 0 → ⊥) → queued r.w x r.q ≡ r.q
  unfolding queued
  known x l b n =
      let s : member x r.q.seen ≡ true = r.holds.marks x (let o = r.low in omega arith) b ∙ ap not (ne_eqb (before row m x) 0 n) in
      simp s

  old : j < count → (x : ℕ) → x ≡ get_or row (first + j) 0 → (x ≡ goal → ⊥) → (before row m x ≡ 0 → ⊥) → Reading row m a goal head tail v first count (j + 1)
  old h x e n k =
      let s = spans h x e in
      record {
        good = r.good;
        from = r.from;
        many = r.many;
        some = omega arith;
        w = r.w;
        tip = r.tip;
        low = r.low;
        below = r.below;
        trace = r.trace;
        q = r.q;
        k = r.k;
        holds = r.holds;
        enough = r.enough;
        rest = rest_on h x e n ∙ ap (λ (q : Queue). go_on (passed goal r.w (drop (j + 1) (graph_in row m v)) q)) (known x s.0 (omega (arith, s.1)) k);
      }

  -- its end is queued now
  abbrev longer : ℕ → Queue
  longer x = record { ways = r.q.ways ++ (farther r.w x ∷ []); seen = x ∷ r.q.seen }

  unknown : (x : ℕ) → v < x → x < goal → before row m x ≡ 0 → queued r.w x r.q ≡ longer x
  unfolding queued
  unknown x l b n =
      let s : member x r.q.seen ≡ false = r.holds.marks x (let o = r.low in omega arith) b ∙ ap not (eq-eqb (before row m x) 0 n) in
      simp s

  new : j < count → (x : ℕ) → x ≡ get_or row (first + j) 0 → (x ≡ goal → ⊥) → before row m x ≡ 0 → Reading (marked row m tail v x) m a goal head (tail + 1) v first count (j + 1)
  new h x e n z =
      let s = spans h x e in
      let l : a ≤ x = omega (arith, s.0, r.low) in
      let b : x < goal = omega (arith, s.1) in
      let g = agree_new row m a goal tail v x r.good l b z in
      let t : tail < m = tail_below row m a goal tail v x r.good l b z in
      let keep = marks_keep row m a goal tail v x r.good l b z in
      let same : graph_in row m ≡ graph_in (marked row m tail v x) m = sym (λ i u. graph_same row (marked row m tail v x) m g.high u i) in
      record {
        good = good_new row m a goal tail v x r.good l b z;
        from = r.from ∙ ap (λ (i : ℕ). 7 * m + i) (sym (above_same row (marked row m tail v x) m g.high (3 * m + v) (omega arith)));
        many = r.many ∙ sym (above_same row (marked row m tail v x) m g.high (4 * m + v) (omega arith));
        some = omega arith;
        w = r.w;
        tip = r.tip;
        low = r.low;
        below = r.below;
        trace = trace_keep keep r.trace;
        q = longer x;
        k = r.k;
        holds = holds_new row m a goal tail v x r.good l b z (head + 1) r.q (r.w.ends ++ (x ∷ [])) r.holds
            (step {v = v} s.0 (before_new row m tail v x r.good.sized t (let i = r.good.inside in omega arith)) refl (trace_keep keep r.trace));
        enough = r.enough;
        rest = subst
            (λ (G : Graph). path_to G a goal ≡ after (passed goal r.w (drop (j + 1) (G v)) (longer x)) (λ (q : Queue). searched r.k G goal q.ways q.seen))
            same
            (rest_on h x e n ∙ ap (λ (q : Queue). go_on (passed goal r.w (drop (j + 1) (graph_in row m v)) q)) (unknown x s.0 b z));
      }

  pub next : j < count → (x : ℕ) → x ≡ get_or row (first + j) 0 → (x ≡ goal → ⊥) → (row' : List ℕ) (tail' : ℕ) → tail' ≡ tail_after row m tail x → row' ≡ row_after row m tail v x
      → Reading row' m a goal head tail' v first count (j + 1) × Agree m row row'
  next h x e n row' tail' t f = go (eqb (before row m x) 0) refl
    where
      go : (u : Bool) → eqb (before row m x) 0 ≡ u → Reading row' m a goal head tail' v first count (j + 1) × Agree m row row'
      go true u =
          let z = eqb-true (before row m x) 0 u in
          let s = spans h x e in
          let o = after_new row m tail v x z in (
            subst (λ (l : List ℕ). Reading l m a goal head tail' v first count (j + 1)) (sym (f ∙ o.1))
                (subst (λ (i : ℕ). Reading (marked row m tail v x) m a goal head i v first count (j + 1)) (sym (t ∙ o.0)) (new h x e n z)),
            subst (λ (l : List ℕ). Agree m row l) (sym (f ∙ o.1)) (agree_new row m a goal tail v x r.good (omega (arith, s.0, r.low)) (omega (arith, s.1)) z),
          )
      go false u =
          let z = eqb-false (before row m x) 0 u in
          let o = after_old row m tail v x z in (
            subst (λ (l : List ℕ). Reading l m a goal head tail' v first count (j + 1)) (sym (f ∙ o.1))
                (subst (λ (i : ℕ). Reading row m a goal head i v first count (j + 1)) (sym (t ∙ o.0)) (old h x e n z)),
            subst (λ (l : List ℕ). Agree m row l) (sym (f ∙ o.1)) (agree_same m row),
          )

  -- all its edges are read
  pass_end : go_on (passed goal r.w [] r.q) ≡ searched r.k (graph_in row m) goal r.q.ways r.q.seen
  unfolding passed after
  pass_end = refl

  pub closed : count ≤ j → Searching row m a goal (head + 1) tail
  closed h =
      record {
        good = r.good;
        q = r.q;
        k = r.k;
        holds = r.holds;
        enough = r.enough;
        rest = r.rest ∙ ap (λ (l : List ℕ). go_on (passed goal r.w l r.q)) (drop_of_length-le (graph_in row m v) {i = j} (omega (arith, graph_size))) ∙ pass_end;
      }

-- what the search leaves alone
pub keeps : {m a goal tail : ℕ} {row row' : List ℕ} → Good row' m a goal tail → Agree m row row' → Kept m goal row row'
keeps g a = record { low = a.low; high = a.high; later = g.later }

-- where there is a way to find, some vertex waits until the goal is reached
pub waits : {m a goal head tail : ℕ} {row row' : List ℕ} (s : Searching row' m a goal head tail) → Agree m row row' → (path_to (graph_in row m) a goal ≡ [] → ⊥) → head < tail
waits {m} {a} {goal} {head} {tail} {row} {row'} s g way =
    elim (dec_lt head tail) [
      | yes l ↦ l
      | no n ↦ absurd (way (ap (λ (G : Graph). path_to G a goal) (sym (λ i u. graph_same row row' m g.high u i)) ∙ exhausted s (omega arith)))
    ]
