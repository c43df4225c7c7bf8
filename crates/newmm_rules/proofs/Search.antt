-- The search finds the goal wherever edges lead to it, and what it finds is a way along edges.
-- Assumes nothing.
use Prim.Native.Nat.{ℕ, zero, suc, ◌+◌, ◌-◌, ◌≤◌, ◌<◌}
use native.Mathlib.Omega.{arith}
use mathlib.Core.Path.{◌≡◌, refl, sym, ◌∙◌, ap, subst}
use mathlib.Core.Bool.{Bool, true, false, cond, not}
use mathlib.Core.Logic.{◌⊎◌, inl, inr, ⊎_elim}
use mathlib.Core.List.Memᴰ
use mathlib.Core.List.{List, [], ◌∷◌, ◌++◌}
use lib.ListN.{length, length-append}
use lib.Dec.{eqb}
use borrow.Author.Tests.{eqb-true, eqb-false, eq-eqb, ne_eqb}
use Rattle.newmm_rules.specs.Positions.{how_many, any, member, In}
use Rattle.newmm_rules.specs.Search.{Graph, Way, farther, Queue, queued, Passed, reached, onward, passed, after, searched, path_to, Chain, stay, along}
use Rattle.newmm_rules.proofs.Counting.{one_fewer, many_most}
use Rattle.newmm_rules.proofs.Positions.{member_in}

-- one edge more at the end
pub chain_on : {graph : Graph} {a x z : ℕ} {xs : List ℕ} → Chain graph a xs x → In z (graph x) → Chain graph a (xs ++ (z ∷ [])) z
chain_on stay m = along m stay
chain_on (along k c) m = along k (chain_on c m)

-- edges lead from a to z
pub data Reach (graph : Graph) (a : ℕ) : ℕ → Type 0 where
  here : Reach graph a a
  edge : {x z : ℕ} → Reach graph a x → In z (graph x) → Reach graph a z

-- ---- how many of k positions from a on were never queued

unseen : List ℕ → ℕ → Bool
unseen seen p = not (member p seen)

fresh : List ℕ → ℕ → ℕ → ℕ
fresh seen a k = how_many (unseen seen) k a

-- one among them that is queued for the first time leaves one less
fresh_less : (x : ℕ) (seen : List ℕ) (a k : ℕ) → a ≤ x → x < a + k → member x seen ≡ false → suc (fresh (x ∷ seen) a k) ≡ fresh seen a k
unfolding fresh unseen any
fresh_less x seen a k h l n =
    one_fewer (unseen seen) (unseen (x ∷ seen)) x k a (ap not n) (rw (eq-eqb x x refl)) (λ y o. rw (ne_eqb y x o)) h l

fresh_most : (seen : List ℕ) (a k : ℕ) → fresh seen a k ≤ k
unfolding fresh
fresh_most seen a k = many_most (unseen seen) k a

-- some way that waits reaches x
record Waits (ways : List Way) (x : ℕ) : Type 0 where
  way : Way
  there : In way ways
  tip : way.tip ≡ x

-- every edge leads from a position on to one between the start and the goal
abbrev pub Within : Graph → ℕ → ℕ → Type 0
Within graph a goal = (x y : ℕ) → In y (graph x) → (a ≤ y) × (y ≤ goal)

module _ (graph : Graph) (a goal : ℕ) (fits : Within graph a goal) where
  -- no edge from x reaches the goal, and the end of each was queued
  Closed : List ℕ → ℕ → Type 0
  Closed seen x = (y : ℕ) → In y (graph x) → (y ≡ goal → ⊥) × In y seen

  -- each vertex that was queued waits, or is closed, or is the one that is being read
  record Good (reading : ℕ → Type 0) (q : Queue) : Type 0 where
    sound : (w : Way) → In w q.ways → Chain graph a w.ends w.tip
    start : In a q.seen
    each : (x : ℕ) → In x q.seen → Waits q.ways x ⊎ (Closed q.seen x ⊎ reading x)

  -- what is still to come: the ways that wait, and the vertices never queued
  room : Queue → ℕ
  room q = length q.ways + fresh q.seen a (goal - a)

  record Grown (reading : ℕ → Type 0) (q q' : Queue) : Type 0 where
    good : Good reading q'
    keeps : (y : ℕ) → In y q.seen → In y q'.seen
    same : room q' ≡ room q

  module _ (reading : ℕ → Type 0) (w : Way) (chain : Chain graph a w.ends w.tip) where
    abbrev with_one : ℕ → Queue → Queue
    with_one x q = record { ways = q.ways ++ (farther w x ∷ []); seen = x ∷ q.seen }

    one_waits : (x : ℕ) (q : Queue) → Waits (with_one x q).ways x
    one_waits x q = record { way = farther w x; there = Memᴰ.append_right q.ways (Memᴰ.head refl); tip = refl }

    one_each : (x : ℕ) (q : Queue) → Good reading q → (y : ℕ) → In y (x ∷ q.seen) → Waits (with_one x q).ways y ⊎ (Closed (x ∷ q.seen) y ⊎ reading y)
    unfolding Closed
    one_each x q h y m = ⊎_elim (λ e. inl (new e)) (λ k. old (h.each y k)) (Memᴰ.cases_cons m)
      where
        new : y ≡ x → Waits (with_one x q).ways y
        new e = let o = one_waits x q in record { way = o.way; there = o.there; tip = o.tip ∙ sym e }

        old : Waits q.ways y ⊎ (Closed q.seen y ⊎ reading y) → Waits (with_one x q).ways y ⊎ (Closed (x ∷ q.seen) y ⊎ reading y)
        old (inl o) = inl (record { way = o.way; there = Memᴰ.append_left (farther w x ∷ []) o.there; tip = o.tip })
        old (inr (inl c)) = inr (inl (λ z k. ((c z k).0, Memᴰ.tail (c z k).1)))
        old (inr (inr r)) = inr (inr r)

    one_sound : (x : ℕ) (q : Queue) → In x (graph w.tip) → Good reading q → (v : Way) → In v (with_one x q).ways → Chain graph a v.ends v.tip
    one_sound x q m h v k = ⊎_elim (λ l. h.sound v l) (λ l. new (Memᴰ.eq_of_singleton l)) (Memᴰ.append_cases q.ways k)
      where
        new : v ≡ farther w x → Chain graph a v.ends v.tip
        new e = subst (λ (u : Way). Chain graph a u.ends u.tip) (sym e) (chain_on chain m)

    record Seen (x : ℕ) (q q' : Queue) : Type 0 where
      grown : Grown reading q q'
      seen : In x q'.seen

    queue_one : (x : ℕ) (q : Queue) → In x (graph w.tip) → (x ≡ goal → ⊥) → Good reading q → Seen x q (queued w x q)
    unfolding queued room
    queue_one x q m n h = go (member x q.seen) refl
      where
        go : (t : Bool) → member x q.seen ≡ t → Seen x q (cond t q (with_one x q))
        go true e = record { grown = record { good = h; keeps = λ y k. k; same = refl }; seen = member_in x q.seen e }
        go false e =
            let r = fits w.tip x m in
            let f = fresh_less x q.seen a (goal - a) r.0 (omega (arith, r.0, r.1)) e in
            record {
              grown = record {
                good = record { sound = one_sound x q m h; start = Memᴰ.tail h.start; each = one_each x q h };
                keeps = λ y k. Memᴰ.tail k;
                same = omega (arith, length-append q.ways (farther w x ∷ []), f);
              };
              seen = Memᴰ.head refl;
            }

    -- what the edges to xs come to
    record Went (xs : List ℕ) (q q' : Queue) : Type 0 where
      grown : Grown reading q q'
      ends : (y : ℕ) → In y xs → (y ≡ goal → ⊥) × In y q'.seen

    abbrev Outcome : List ℕ → Queue → Passed → Type 0
    Outcome xs q (reached v) = Chain graph a v.ends goal
    Outcome xs q (onward q') = Went xs q q'

    went_on : (x : ℕ) (xs : List ℕ) (q q₁ : Queue) → (x ≡ goal → ⊥) → Seen x q q₁ → (p : Passed) → Outcome xs q₁ p → Outcome (x ∷ xs) q p
    went_on x xs q q₁ n s (reached v) o = o
    went_on x xs q q₁ n s (onward q') o =
        record {
          grown = record { good = o.grown.good; keeps = λ y k. o.grown.keeps y (s.grown.keeps y k); same = o.grown.same ∙ s.grown.same };
          ends = λ y k.
              ⊎_elim (λ e. ((λ d. n (sym e ∙ d)), Memᴰ.cast e (o.grown.keeps x s.seen))) (λ l. o.ends y l) (Memᴰ.cases_cons k);
        }

    pass : (xs : List ℕ) (q : Queue) → ((y : ℕ) → In y xs → In y (graph w.tip)) → Good reading q → Outcome xs q (passed goal w xs q)
    unfolding passed
    pass [] q all h = record { grown = record { good = h; keeps = λ y k. k; same = refl }; ends = λ y k. absurd (Memᴰ.not-nil k) }
    pass (x ∷ xs) q all h = go (λ q₁ k. pass xs q₁ (λ y m. all y (Memᴰ.tail m)) k) (eqb x goal) refl
      where
        go : ((q₁ : Queue) → Good reading q₁ → Outcome xs q₁ (passed goal w xs q₁)) → (t : Bool) → eqb x goal ≡ t
            → Outcome (x ∷ xs) q (cond t (reached (farther w x)) (passed goal w xs (queued w x q)))
        go ih true e = subst (λ (z : ℕ). Chain graph a (w.ends ++ (x ∷ [])) z) (eqb-true x goal e) (chain_on chain (all x (Memᴰ.head refl)))
        go ih false e =
            let n = eqb-false x goal e in
            let s = queue_one x q (all x (Memᴰ.head refl)) n h in
            went_on x xs q (queued w x q) n s (passed goal w xs (queued w x q)) (ih (queued w x q) s.grown.good)

  -- ---- the whole search

  nothing : ℕ → Type 0
  nothing x = ⊥

  -- with no way left to take, every vertex that edges lead to is closed
  module _ (seen : List ℕ) (h : Good nothing (record { ways = []; seen = seen })) where
    closed : (x : ℕ) → In x seen → Closed seen x
    unfolding nothing
    closed x m = ⊎_elim (λ o. absurd (Memᴰ.not-nil o.there)) (λ o. ⊎_elim (λ c. c) (λ n. absurd n) o) (h.each x m)

    all_seen : {z : ℕ} → Reach graph a z → In z seen
    unfolding Closed
    all_seen here = h.start
    all_seen (edge {x = x} {z = z} r m) = (closed x (all_seen r) z m).1

    no_way : {z : ℕ} → Reach graph a z → z ≡ goal → (a ≡ goal → ⊥) → ⊥
    unfolding Closed
    no_way here e n = n e
    no_way (edge {x = x} {z = z} r m) e n = (closed x (all_seen r) z m).0 e

  -- a way is taken off the queue
  taken : (w : Way) (ways : List Way) (seen : List ℕ) → Good nothing (record { ways = w ∷ ways; seen = seen }) → Good (λ x. x ≡ w.tip) (record { ways = ways; seen = seen })
  unfolding nothing
  taken w ways seen h = record { sound = λ v k. h.sound v (Memᴰ.tail k); start = h.start; each = λ x m. by x (h.each x m) }
    where
      wait : (x : ℕ) → (o : Waits (w ∷ ways) x) → (o.way ≡ w) ⊎ In o.way ways → Waits ways x ⊎ (Closed seen x ⊎ (x ≡ w.tip))
      wait x o (inl e) = inr (inr (sym o.tip ∙ ap (λ (v : Way). v.tip) e))
      wait x o (inr k) = inl (record { way = o.way; there = k; tip = o.tip })

      by : (x : ℕ) → Waits (w ∷ ways) x ⊎ (Closed seen x ⊎ ⊥) → Waits ways x ⊎ (Closed seen x ⊎ (x ≡ w.tip))
      by x (inl o) = wait x o (Memᴰ.cases_cons o.there)
      by x (inr (inl c)) = inr (inl c)
      by x (inr (inr n)) = absurd n

  -- its edges are read
  read : (w : Way) (q : Queue) → Good (λ x. x ≡ w.tip) q → ((y : ℕ) → In y (graph w.tip) → (y ≡ goal → ⊥) × In y q.seen) → Good nothing q
  unfolding Closed
  read w q h all = record { sound = h.sound; start = h.start; each = λ x m. by x (h.each x m) }
    where
      by : (x : ℕ) → Waits q.ways x ⊎ (Closed q.seen x ⊎ (x ≡ w.tip)) → Waits q.ways x ⊎ (Closed q.seen x ⊎ nothing x)
      by x (inl o) = inl o
      by x (inr (inl c)) = inr (inl c)
      by x (inr (inr e)) = inr (inl (subst (λ (z : ℕ). Closed q.seen z) (sym e) all))

  module _ (apart : a ≡ goal → ⊥) (reach : Reach graph a goal) where
    finds : (k : ℕ) (ways : List Way) (seen : List ℕ) → Good nothing (record { ways = ways; seen = seen }) → room (record { ways = ways; seen = seen }) ≤ k
        → Chain graph a (searched k graph goal ways seen) goal
    unfolding searched room after
    finds zero [] seen h r = absurd (no_way seen h reach refl apart)
    finds zero (w ∷ ways) seen h r = absurd (omega arith)
    finds (suc k) [] seen h r = absurd (no_way seen h reach refl apart)
    finds (suc k) (w ∷ ways) seen h r =
        go (passed goal w (graph w.tip) q) (pass (λ x. x ≡ w.tip) w (h.sound w (Memᴰ.head refl)) (graph w.tip) q (λ y m. m) (taken w ways seen h))
        (λ ways' seen' g i. finds k ways' seen' g i)
      where
        q : Queue
        q = record { ways = ways; seen = seen }

        go : (p : Passed) → Outcome (λ x. x ≡ w.tip) w (h.sound w (Memᴰ.head refl)) (graph w.tip) q p
            → ((ways' : List Way) (seen' : List ℕ) → Good nothing (record { ways = ways'; seen = seen' }) → room (record { ways = ways'; seen = seen' }) ≤ k → Chain graph a (searched k graph goal ways' seen') goal)
            → Chain graph a (after p (λ (s : Queue). searched k graph goal s.ways s.seen)) goal
        go (reached v) o ih = o
        go (onward q') o ih = ih q'.ways q'.seen (read w q' o.grown.good o.ends) (let e = o.grown.same in omega arith)

-- THE SEARCH CANNOT FAIL: where edges lead from the start to the goal, it finds a way along them.
pub path_found : {graph : Graph} {a goal : ℕ} → Within graph a goal → a < goal → Reach graph a goal → Chain graph a (path_to graph a goal) goal
unfolding path_to room nothing any
path_found {graph} {a} {goal} fits h reach =
    finds graph a goal fits (λ e. omega arith) reach (goal - a) (record { tip = a; ends = [] } ∷ []) (a ∷ [])
    (record {
      sound = λ w m. first w (Memᴰ.eq_of_singleton m);
      start = Memᴰ.head refl;
      each = λ x m. inl (record { way = record { tip = a; ends = [] }; there = Memᴰ.head refl; tip = sym (Memᴰ.eq_of_singleton m) });
    })
    (omega (arith, fresh_less a [] a (goal - a) (omega arith) (omega arith) refl, fresh_most [] a (goal - a)))
  where
    first : (w : Way) → w ≡ record { tip = a; ends = [] } → Chain graph a w.ends w.tip
    first w e = subst (λ (v : Way). Chain graph a v.ends v.tip) (sym e) stay

empty_chain : {graph : Graph} {a z : ℕ} → Chain graph a [] z → a ≡ z
empty_chain stay = refl

-- That way isn't empty.
pub path_some : {graph : Graph} {a goal : ℕ} → Within graph a goal → a < goal → Reach graph a goal → path_to graph a goal ≡ [] → ⊥
path_some {graph} {a} {goal} fits h reach e = let q = empty_chain (subst (λ (l : List ℕ). Chain graph a l goal) e (path_found fits h reach)) in omega arith
