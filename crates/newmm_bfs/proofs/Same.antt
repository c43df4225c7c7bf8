-- The search looks at vertices between the start and the goal only. Assumes nothing.
use Prim.Native.Nat.{ℕ, zero, suc, ◌-◌, ◌≤◌, ◌<◌}
use native.Mathlib.Omega.{arith}
use mathlib.Core.Path.{◌≡◌, refl, ◌∙◌, ap}
use mathlib.Core.Bool.{Bool, true, false, cond}
use mathlib.Core.Logic.{⊎_elim}
use mathlib.Core.List.Memᴰ
use mathlib.Core.List.{List, [], ◌∷◌, ◌++◌}
use lib.Dec.{eqb}
use borrow.Author.Tests.{eqb-false}
use Rattle.newmm_rules.specs.Positions.{member, In}
use Rattle.newmm_rules.specs.Search.{Graph, Way, farther, Queue, queued, Passed, reached, onward, passed, after, searched, path_to}

module _ (G H : Graph) (a goal : ℕ) (same : (v : ℕ) → a ≤ v → v < goal → G v ≡ H v) (spans : (v y : ℕ) → a ≤ v → v < goal → In y (G v) → (a ≤ y) × (y ≤ goal)) where
  -- the ways that wait end before the goal
  abbrev Before : List Way → Type 0
  Before ways = (w : Way) → In w ways → (a ≤ w.tip) × (w.tip < goal)

  before_queued : (w : Way) (x : ℕ) (q : Queue) → a ≤ x → x < goal → Before q.ways → Before (queued w x q).ways
  unfolding queued
  before_queued w x q l h b = go (member x q.seen)
    where
      go : (t : Bool) → (v : Way) → In v (cond t q (record { ways = q.ways ++ (farther w x ∷ []); seen = x ∷ q.seen })).ways → (a ≤ v.tip) × (v.tip < goal)
      go true v m = b v m
      go false v m =
          ⊎_elim (λ k. b v k) (λ k. let e : v.tip ≡ x = ap (λ (u : Way). u.tip) (Memᴰ.eq_of_singleton k) in (omega arith, omega arith)) (Memᴰ.append_cases q.ways m)

  Fine : Passed → Type 0
  Fine (reached w) = Unit
  Fine (onward q) = Before q.ways

  before_passed : (w : Way) (xs : List ℕ) (q : Queue) → ((y : ℕ) → In y xs → (a ≤ y) × (y ≤ goal)) → Before q.ways → Fine (passed goal w xs q)
  unfolding passed Fine
  before_passed w [] q s b = b
  before_passed w (x ∷ xs) q s b = go (λ q₁ k. before_passed w xs q₁ (λ y m. s y (Memᴰ.tail m)) k) (eqb x goal) refl
    where
      go : ((q₁ : Queue) → Before q₁.ways → Fine (passed goal w xs q₁)) → (t : Bool) → eqb x goal ≡ t → Fine (cond t (reached (farther w x)) (passed goal w xs (queued w x q)))
      go ih true e = tt
      go ih false e =
          let n = eqb-false x goal e in
          let r = s x (Memᴰ.head refl) in
          ih (queued w x q) (before_queued w x q r.0 (omega (arith, r.1)) b)

  after_same : (k : ℕ) → ((ways : List Way) (seen : List ℕ) → Before ways → searched k G goal ways seen ≡ searched k H goal ways seen) → (p : Passed) → Fine p
      → after p (λ (s : Queue). searched k G goal s.ways s.seen) ≡ after p (λ (s : Queue). searched k H goal s.ways s.seen)
  unfolding after Fine
  after_same k ih (reached w) f = refl
  after_same k ih (onward q) f = ih q.ways q.seen f

  searched_same : (k : ℕ) (ways : List Way) (seen : List ℕ) → Before ways → searched k G goal ways seen ≡ searched k H goal ways seen
  unfolding searched
  searched_same zero ways seen b = refl
  searched_same (suc k) [] seen b = refl
  searched_same (suc k) (w ∷ ways) seen b =
      let r = b w (Memᴰ.head refl) in
      after_same k (λ ws sn bf. searched_same k ws sn bf) (passed goal w (G w.tip) (record { ways = ways; seen = seen }))
      (before_passed w (G w.tip) (record { ways = ways; seen = seen }) (λ y m. spans w.tip y r.0 r.1 m) (λ v m. b v (Memᴰ.tail m)))
      ∙ ap (λ (l : List ℕ). after (passed goal w l (record { ways = ways; seen = seen })) (λ (s : Queue). searched k H goal s.ways s.seen)) (same w.tip r.0 r.1)

  -- graphs that agree there have the same path
  pub path_same : a < goal → path_to G a goal ≡ path_to H a goal
  unfolding path_to
  path_same h =
      searched_same (goal - a) (record { tip = a; ends = [] } ∷ []) (a ∷ [])
      (λ w m. let e : w.tip ≡ a = ap (λ (u : Way). u.tip) (Memᴰ.eq_of_singleton m) in (omega arith, omega arith))
