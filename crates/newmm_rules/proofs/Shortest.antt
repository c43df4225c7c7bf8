-- The search finds a shortest way: no way along edges from the start to the goal has fewer
-- vertices. Assumes nothing.
use Prim.Native.Nat.{ℕ, zero, suc, ◌+◌, ◌-◌, ◌≤◌, ◌<◌}
use native.Mathlib.Omega.{arith}
use native.Mathlib.Decide.{dec_lt}
use mathlib.Core.Path.{◌≡◌, refl, sym, ◌∙◌, ap, subst}
use mathlib.Core.Bool.{Bool, true, false, cond}
use mathlib.Core.Logic.{◌⊎◌, inl, inr, ⊎_elim}
use mathlib.Core.List.Memᴰ
use mathlib.Core.List.{List, [], ◌∷◌, ◌++◌}
use lib.ListN.{length, length-append}
use lib.Dec.{eqb}
use borrow.Author.Tests.{eqb-true, eqb-false}
use Rattle.newmm_rules.specs.Positions.{member, In}
use Rattle.newmm_rules.specs.Search.{Graph, Way, farther, Queue, queued, Passed, reached, onward, passed, after, searched, path_to, Chain, stay, along}
use Rattle.newmm_rules.proofs.Positions.{member_in, not_in}

-- ---- the last edge of a way

record Last (graph : Graph) (a z : ℕ) (ws : List ℕ) : Type 0 where
  from : ℕ
  before : List ℕ
  way : Chain graph a before from
  edge : In z (graph from)
  size : length ws ≡ suc (length before)

-- no edge, or a last one
data Ends (graph : Graph) (a z : ℕ) (ws : List ℕ) : Type 0 where
  home : z ≡ a → length ws ≡ 0 → Ends graph a z ws
  last : Last graph a z ws → Ends graph a z ws

last_of : {graph : Graph} {a z : ℕ} {ws : List ℕ} → Chain graph a ws z → Ends graph a z ws
last_of stay = home refl refl
last_of (along {a = a} {x = x} m c) = go m (last_of c)
  where
    go : {graph : Graph} {a x z : ℕ} {ws : List ℕ} → In x (graph a) → Ends graph x z ws → Ends graph a z (x ∷ ws)
    go {graph} {a} {x} {z} {ws} m (last l) = last (record { from = l.from; before = x ∷ l.before; way = along m l.way; edge = l.edge; size = ap suc l.size })
    go {graph} {a} {x} {z} {ws} m (home e k) = last (record { from = a; before = []; way = stay; edge = Memᴰ.cast e m; size = ap suc k })

-- ---- the ways that wait: some of length l, then all of length l + 1

abbrev size : Way → ℕ
size w = length w.ends

data Equal (l : ℕ) : List Way → Type 0 where
  none : Equal l []
  one : {w : Way} {ws : List Way} → size w ≡ l → Equal l ws → Equal l (w ∷ ws)

data Levels (l : ℕ) : List Way → Type 0 where
  later : {ws : List Way} → Equal (suc l) ws → Levels l ws
  now : {w : Way} {ws : List Way} → size w ≡ l → Levels l ws → Levels l (w ∷ ws)

equal_put : {l : ℕ} {ws : List Way} (w : Way) → size w ≡ l → Equal l ws → Equal l (ws ++ (w ∷ []))
equal_put w e none = one e none
equal_put w e (one d r) = one d (equal_put w e r)

put : {l : ℕ} {ws : List Way} (w : Way) → size w ≡ suc l → Levels l ws → Levels l (ws ++ (w ∷ []))
put w e (later r) = later (equal_put w e r)
put w e (now d r) = now d (put w e r)

-- a level on
level : {l : ℕ} {ws : List Way} → Equal l ws → Levels l ws
level none = later none
level (one e r) = now e (level r)

equal_size : {l : ℕ} {ws : List Way} → Equal l ws → (w : Way) → In w ws → size w ≡ l
equal_size none w m = absurd (Memᴰ.not-nil m)
equal_size (one e r) w m = ⊎_elim (λ q. ap size q ∙ e) (λ k. equal_size r w k) (Memᴰ.cases_cons m)

at_least : {l : ℕ} {ws : List Way} → Levels l ws → (w : Way) → In w ws → l ≤ size w
at_least (later r) w m = let e = equal_size r w m in omega arith
at_least (now d r) w m = ⊎_elim (λ q. let e = ap size q ∙ d in omega arith) (λ k. at_least r w k) (Memᴰ.cases_cons m)

-- the first way is taken off: those behind it are as long, or longer by one
off : {l : ℕ} {w : Way} {ws : List Way} → Levels l (w ∷ ws) → Levels (size w) ws
off {l} {w} {ws} (later (one e r)) = subst (λ (k : ℕ). Levels k ws) (sym e) (level r)
off {l} {w} {ws} (now e r) = subst (λ (k : ℕ). Levels k ws) (sym e) r

-- some way that waits reaches x
record Waits (ways : List Way) (x : ℕ) : Type 0 where
  way : Way
  there : In way ways
  tip : way.tip ≡ x

module _ (graph : Graph) (a goal : ℕ) (apart : goal ≡ a → ⊥) where
  -- no edge from x reaches the goal, and the end of each was queued
  Closed : List ℕ → ℕ → Type 0
  Closed seen x = (y : ℕ) → In y (graph x) → (y ≡ goal → ⊥) × In y seen

  -- no way along edges to x has fewer than l vertices
  Least : ℕ → ℕ → Type 0
  Least x l = (ws : List ℕ) → Chain graph a ws x → l ≤ length ws

  -- each vertex that was queued waits by a shortest way, or is closed, or is the one that is being
  -- read
  record Good (reading : ℕ → Type 0) (q : Queue) : Type 0 where
    start : In a q.seen
    each : (x : ℕ) → In x q.seen → Waits q.ways x ⊎ (Closed q.seen x ⊎ reading x)
    least : (w : Way) → In w q.ways → Least w.tip (size w)

  -- ---- while the edges of w are read

  module _ (w : Way) (shortest : Least w.tip (size w)) where
    Reading : ℕ → Type 0
    Reading x = x ≡ w.tip

    record State (q : Queue) : Type 0 where
      good : Good Reading q
      levels : Levels (size w) q.ways

    module _ (q : Queue) (h : State q) where
      -- a vertex that was queued, and that fewer edges lead to, is closed
      shut : (x : ℕ) (ws : List ℕ) → Chain graph a ws x → length ws < size w → In x q.seen → Closed q.seen x
      unfolding Least Reading
      shut x ws c k m = go (h.good.each x m)
        where
          go : Waits q.ways x ⊎ (Closed q.seen x ⊎ Reading x) → Closed q.seen x
          go (inl o) = absurd (let i = at_least h.levels o.way o.there in let j = h.good.least o.way o.there ws (subst (λ (z : ℕ). Chain graph a ws z) (sym o.tip) c) in omega arith)
          go (inr (inl d)) = d
          go (inr (inr r)) = absurd (let j = shortest ws (subst (λ (z : ℕ). Chain graph a ws z) r c) in omega arith)

      -- what fewer edges lead to is closed
      near : (n : ℕ) (x : ℕ) (ws : List ℕ) → Chain graph a ws x → length ws ≡ n → n < size w → Closed q.seen x
      unfolding Closed
      near zero x ws c e k = shut x ws c (omega arith) (go (last_of c))
        where
          go : Ends graph a x ws → In x q.seen
          go (home z l) = Memᴰ.cast z h.good.start
          go (last l) = absurd (let i = l.size in omega arith)
      near (suc n) x ws c e k = shut x ws c (omega arith) (go (λ y vs d f. near n y vs d f (omega arith)) (last_of c))
        where
          go : ((y : ℕ) (vs : List ℕ) → Chain graph a vs y → length vs ≡ n → Closed q.seen y) → Ends graph a x ws → In x q.seen
          go ih (home z l) = Memᴰ.cast z h.good.start
          go ih (last l) = (ih l.from l.before l.way (let i = l.size in omega arith) x l.edge).1

      -- a vertex that no edge so far has queued lies farther
      unseen_far : (x : ℕ) → (In x q.seen → ⊥) → Least x (suc (size w))
      unfolding Least Closed
      unseen_far x u ws c = go (last_of c) (dec_lt (length ws) (suc (size w)))
        where
          go : Ends graph a x ws → Dec (length ws < suc (size w)) → suc (size w) ≤ length ws
          go (home z l) t = absurd (u (Memᴰ.cast z h.good.start))
          go (last l) (yes t) = absurd (u (near (length l.before) l.from l.before l.way refl (let i = l.size in omega arith) x l.edge).1)
          go (last l) (no t) = omega arith

      -- so does the goal
      goal_far : Least goal (suc (size w))
      unfolding Least Closed
      goal_far ws c = go (last_of c) (dec_lt (length ws) (suc (size w)))
        where
          go : Ends graph a goal ws → Dec (length ws < suc (size w)) → suc (size w) ≤ length ws
          go (home z l) t = absurd (apart z)
          go (last l) (yes t) = absurd ((near (length l.before) l.from l.before l.way refl (let i = l.size in omega arith) goal l.edge).0 refl)
          go (last l) (no t) = omega arith

    longer : (x : ℕ) → size (farther w x) ≡ suc (size w)
    longer x = length-append w.ends (x ∷ []) ∙ (let e : size w + 1 ≡ suc (size w) = omega arith in e)

    abbrev with_one : ℕ → Queue → Queue
    with_one x q = record { ways = q.ways ++ (farther w x ∷ []); seen = x ∷ q.seen }

    record Seen (x : ℕ) (q q' : Queue) : Type 0 where
      state : State q'
      seen : In x q'.seen
      keeps : (y : ℕ) → In y q.seen → In y q'.seen

    new_each : (x : ℕ) (q : Queue) → State q → (y : ℕ) → In y (x ∷ q.seen) → Waits (with_one x q).ways y ⊎ (Closed (x ∷ q.seen) y ⊎ Reading y)
    unfolding Closed
    new_each x q h y m = ⊎_elim (λ e. inl (record { way = farther w x; there = Memᴰ.append_right q.ways (Memᴰ.head refl); tip = sym e })) (λ k. old (h.good.each y k)) (Memᴰ.cases_cons m)
      where
        old : Waits q.ways y ⊎ (Closed q.seen y ⊎ Reading y) → Waits (with_one x q).ways y ⊎ (Closed (x ∷ q.seen) y ⊎ Reading y)
        old (inl o) = inl (record { way = o.way; there = Memᴰ.append_left (farther w x ∷ []) o.there; tip = o.tip })
        old (inr (inl c)) = inr (inl (λ z k. ((c z k).0, Memᴰ.tail (c z k).1)))
        old (inr (inr r)) = inr (inr r)

    new_least : (x : ℕ) (q : Queue) → State q → (In x q.seen → ⊥) → (v : Way) → In v (with_one x q).ways → Least v.tip (size v)
    unfolding Least
    new_least x q h u v m = ⊎_elim (λ k. h.good.least v k) (λ k. new (Memᴰ.eq_of_singleton k)) (Memᴰ.append_cases q.ways m)
      where
        new : v ≡ farther w x → (ws : List ℕ) → Chain graph a ws v.tip → size v ≤ length ws
        new e ws c =
            let f = unseen_far q h x u ws (subst (λ (z : Way). Chain graph a ws z.tip) e c) in
            let s : size v ≡ suc (size w) = ap size e ∙ longer x in omega arith

    queue_one : (x : ℕ) (q : Queue) → State q → Seen x q (queued w x q)
    unfolding queued
    queue_one x q h = go (member x q.seen) refl
      where
        go : (t : Bool) → member x q.seen ≡ t → Seen x q (cond t q (with_one x q))
        go true e = record { state = h; seen = member_in x q.seen e; keeps = λ y k. k }
        go false e =
            record {
              state = record {
                good = record { start = Memᴰ.tail h.good.start; each = new_each x q h; least = new_least x q h (λ m. not_in x q.seen e m) };
                levels = put (farther w x) (longer x) h.levels;
              };
              seen = Memᴰ.head refl;
              keeps = λ y k. Memᴰ.tail k;
            }

    record Went (xs : List ℕ) (q q' : Queue) : Type 0 where
      state : State q'
      keeps : (y : ℕ) → In y q.seen → In y q'.seen
      ends : (y : ℕ) → In y xs → (y ≡ goal → ⊥) × In y q'.seen

    -- the goal is reached by a shortest way, or the search goes on
    abbrev Outcome : List ℕ → Queue → Passed → Type 0
    Outcome xs q (reached v) = Least goal (size v)
    Outcome xs q (onward q') = Went xs q q'

    pass : (xs : List ℕ) (q : Queue) → State q → Outcome xs q (passed goal w xs q)
    unfolding passed
    pass [] q h = record { state = h; keeps = λ y k. k; ends = λ y k. absurd (Memᴰ.not-nil k) }
    pass (x ∷ xs) q h = go (λ q₁ k. pass xs q₁ k) (eqb x goal) refl
      where
        on : (q₁ : Queue) → (x ≡ goal → ⊥) → Seen x q q₁ → (p : Passed) → Outcome xs q₁ p → Outcome (x ∷ xs) q p
        on q₁ n s (reached v) o = o
        on q₁ n s (onward q') o =
            record {
              state = o.state;
              keeps = λ y k. o.keeps y (s.keeps y k);
              ends = λ y k. ⊎_elim (λ e. ((λ d. n (sym e ∙ d)), Memᴰ.cast e (o.keeps x s.seen))) (λ l. o.ends y l) (Memᴰ.cases_cons k);
            }

        go : ((q₁ : Queue) → State q₁ → Outcome xs q₁ (passed goal w xs q₁)) → (t : Bool) → eqb x goal ≡ t
            → Outcome (x ∷ xs) q (cond t (reached (farther w x)) (passed goal w xs (queued w x q)))
        go ih true e = subst (λ (k : ℕ). Least goal k) (sym (longer x)) (goal_far q h)
        go ih false e = let s = queue_one x q h in on (queued w x q) (eqb-false x goal e) s (passed goal w xs (queued w x q)) (ih (queued w x q) s.state)

  -- ---- the whole search

  Nothing : ℕ → Type 0
  Nothing x = ⊥

  record Ready (q : Queue) : Type 0 where
    good : Good Nothing q
    l : ℕ
    levels : Levels l q.ways

  -- a way is taken off the queue
  taken : (w : Way) (ways : List Way) (seen : List ℕ) → Ready (record { ways = w ∷ ways; seen = seen }) → (s : Least w.tip (size w)) → State w s (record { ways = ways; seen = seen })
  unfolding Nothing Reading
  taken w ways seen h s =
      record {
        good = record { start = h.good.start; each = λ x m. by x (h.good.each x m); least = λ v k. h.good.least v (Memᴰ.tail k) };
        levels = off h.levels;
      }
    where
      wait : (x : ℕ) → (o : Waits (w ∷ ways) x) → (o.way ≡ w) ⊎ In o.way ways → Waits ways x ⊎ (Closed seen x ⊎ (x ≡ w.tip))
      wait x o (inl e) = inr (inr (sym o.tip ∙ ap (λ (v : Way). v.tip) e))
      wait x o (inr k) = inl (record { way = o.way; there = k; tip = o.tip })

      by : (x : ℕ) → Waits (w ∷ ways) x ⊎ (Closed seen x ⊎ ⊥) → Waits ways x ⊎ (Closed seen x ⊎ (x ≡ w.tip))
      by x (inl o) = wait x o (Memᴰ.cases_cons o.there)
      by x (inr (inl c)) = inr (inl c)
      by x (inr (inr n)) = absurd n

  -- its edges are read
  read : (w : Way) (s : Least w.tip (size w)) (q : Queue) → State w s q → ((y : ℕ) → In y (graph w.tip) → (y ≡ goal → ⊥) × In y q.seen) → Ready q
  unfolding Closed Nothing Reading
  read w s q h all = record { good = record { start = h.good.start; each = λ x m. by x (h.good.each x m); least = h.good.least }; l = size w; levels = h.levels }
    where
      by : (x : ℕ) → Waits q.ways x ⊎ (Closed q.seen x ⊎ (x ≡ w.tip)) → Waits q.ways x ⊎ (Closed q.seen x ⊎ Nothing x)
      by x (inl o) = inl o
      by x (inr (inl c)) = inr (inl c)
      by x (inr (inr e)) = inr (inl (subst (λ (z : ℕ). Closed q.seen z) (sym e) all))

  finds : (k : ℕ) (ways : List Way) (seen : List ℕ) → Ready (record { ways = ways; seen = seen }) → Least goal (length (searched k graph goal ways seen))
  unfolding searched after Least
  finds zero ways seen h ws c = omega arith
  finds (suc k) [] seen h ws c = omega arith
  finds (suc k) (w ∷ ways) seen h ws c = go (passed goal w (graph w.tip) q) (pass w s (graph w.tip) q (taken w ways seen h s)) (λ ways' seen' g. finds k ways' seen' g ws c)
    where
      q : Queue
      q = record { ways = ways; seen = seen }

      s : Least w.tip (size w)
      s = h.good.least w (Memᴰ.head refl)

      go : (p : Passed) → Outcome w s (graph w.tip) q p → ((ways' : List Way) (seen' : List ℕ) → Ready (record { ways = ways'; seen = seen' }) → length (searched k graph goal ways' seen') ≤ length ws)
          → length (after p (λ (r : Queue). searched k graph goal r.ways r.seen)) ≤ length ws
      go (reached v) o ih = o ws c
      go (onward q') o ih = ih q'.ways q'.seen (read w s q' o.state o.ends)

-- THE SEARCH FINDS A SHORTEST WAY.
pub path_shortest : (graph : Graph) (a goal : ℕ) → (goal ≡ a → ⊥) → (ws : List ℕ) → Chain graph a ws goal → length (path_to graph a goal) ≤ length ws
unfolding path_to Least Nothing
path_shortest graph a goal apart ws c =
    finds graph a goal apart (goal - a) (record { tip = a; ends = [] } ∷ []) (a ∷ [])
    (record {
      good = record {
        start = Memᴰ.head refl;
        each = λ x m. inl (record { way = record { tip = a; ends = [] }; there = Memᴰ.head refl; tip = sym (Memᴰ.eq_of_singleton m) });
        least = λ w m vs d. let e = ap size (Memᴰ.eq_of_singleton m) in omega arith;
      };
      l = 0;
      levels = now refl (later none);
    }) ws c
