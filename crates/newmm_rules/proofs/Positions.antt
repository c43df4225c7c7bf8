-- Rows of positions: which stand in them, and that they rise. Assumes nothing.
use Prim.Native.Nat.{ℕ, zero, suc, ◌+◌, ◌≤◌, ◌<◌}
use native.Mathlib.Omega.{arith}
use mathlib.Core.Path.{◌≡◌, refl, sym, ◌∙◌, ap}
use mathlib.Core.Bool.{Bool, true, false, cond, ◌||◌}
use mathlib.Core.Logic.{◌⊎◌, inl, inr, ⊎_elim}
use mathlib.Core.List.Memᴰ
use mathlib.Core.List.{List, [], ◌∷◌}
use lib.ListN.{length}
use lib.Dec.{ltb, eqb}
use borrow.Author.Tests.{eqb-true, eqb-false, eq-eqb, ltb-true, ltb-false}
use Rattle.newmm_rules.specs.Positions.{up_from, keep, those, first_or, any, member, inserted, In, Rises, none, next}

pub at_least : {low x : ℕ} {xs : List ℕ} → Rises low xs → In x xs → low ≤ x
at_least none m = absurd (Memᴰ.not-nil m)
at_least {low} {x} (next {x = y} {xs = ys} h r) m = go (λ (k : In x ys). at_least r k) (Memᴰ.cases_cons m)
  where
    go : (In x ys → suc y ≤ x) → (x ≡ y) ⊎ In x ys → low ≤ x
    go ih (inl e) = omega arith
    go ih (inr k) = let z = ih k in omega arith

pub lower : {low low' : ℕ} {xs : List ℕ} → low' ≤ low → Rises low xs → Rises low' xs
lower h none = none
lower {low' = low'} h (next {x = y} k r) = next {low = low'} {x = y} (omega arith) r

-- ---- tests

module _ (x : ℕ) where
  pub member_in : (xs : List ℕ) → member x xs ≡ true → In x xs
  unfolding any
  member_in [] e = absurd (let z : ◌≡◌ {A = ℕ} 0 1 = cc in omega arith)
  member_in (y ∷ ys) e = go (λ k. member_in ys k) (eqb x y) refl e
    where
      go : (member x ys ≡ true → In x ys) → (t : Bool) → eqb x y ≡ t → (t || member x ys) ≡ true → In x (y ∷ ys)
      go ih true h k = Memᴰ.head (eqb-true x y h)
      go ih false h k = Memᴰ.tail (ih k)

  pub in_member : (xs : List ℕ) → In x xs → member x xs ≡ true
  unfolding any
  in_member [] m = absurd (Memᴰ.not-nil m)
  in_member (y ∷ ys) m = go (λ k. in_member ys k) (Memᴰ.cases_cons m)
    where
      or_true : (t : Bool) → (t || true) ≡ true
      or_true true = refl
      or_true false = refl

      go : (In x ys → member x ys ≡ true) → (x ≡ y) ⊎ In x ys → (eqb x y || member x ys) ≡ true
      go ih (inl e) = rw (eq-eqb x y e)
      go ih (inr k) = rw (ih k) (or_true (eqb x y))

  pub not_in : (xs : List ℕ) → member x xs ≡ false → In x xs → ⊥
  not_in xs h m = let k = in_member xs m in let z : true ≡ false = sym k ∙ h in absurd (let y : ◌≡◌ {A = ℕ} 0 1 = cc in omega arith)

module _ (test : ℕ → Bool) where
  -- what stands among those that pass stood there before, and passes
  pub those_in : (x : ℕ) (xs : List ℕ) → In x (those test xs) → In x xs × (test x ≡ true)
  unfolding those
  those_in x [] m = absurd (Memᴰ.not-nil m)
  those_in x (y ∷ ys) m = go (λ k. those_in x ys k) (test y) refl m
    where
      go : (In x (those test ys) → In x ys × (test x ≡ true)) → (t : Bool) → test y ≡ t → In x (keep t y (those test ys)) → In x (y ∷ ys) × (test x ≡ true)
      go ih true h k = ⊎_elim (λ e. (Memᴰ.head e, ap test e ∙ h)) (λ l. (Memᴰ.tail (ih l).0, (ih l).1)) (Memᴰ.cases_cons k)
      go ih false h k = (Memᴰ.tail (ih k).0, (ih k).1)

  pub in_those : (x : ℕ) (xs : List ℕ) → In x xs → test x ≡ true → In x (those test xs)
  unfolding those
  in_those x [] m e = absurd (Memᴰ.not-nil m)
  in_those x (y ∷ ys) m e = go (λ k. in_those x ys k e) (test y) refl (Memᴰ.cases_cons m)
    where
      go : (In x ys → In x (those test ys)) → (t : Bool) → test y ≡ t → (x ≡ y) ⊎ In x ys → In x (keep t y (those test ys))
      go ih true h (inl q) = Memᴰ.head q
      go ih true h (inr k) = Memᴰ.tail (ih k)
      go ih false h (inl q) = absurd (let z : true ≡ false = sym e ∙ ap test q ∙ h in let y : ◌≡◌ {A = ℕ} 0 1 = cc in omega arith)
      go ih false h (inr k) = ih k

  pub those_rise : {low : ℕ} {xs : List ℕ} → Rises low xs → Rises low (those test xs)
  unfolding those
  those_rise none = none
  those_rise {low} (next {x = y} {xs = ys} h r) = go (those_rise r) (test y)
    where
      go : Rises (suc y) (those test ys) → (t : Bool) → Rises low (keep t y (those test ys))
      go ih true = next h ih
      go ih false = lower (omega arith) ih

  -- the first that passes stands among them, or there is none
  pub first_in : (d : ℕ) (xs : List ℕ) → (first_or d test xs ≡ d) ⊎ (In (first_or d test xs) xs × (test (first_or d test xs) ≡ true))
  unfolding first_or
  first_in d [] = inl refl
  first_in d (x ∷ xs) = go (first_in d xs) (test x) refl
    where
      go : (first_or d test xs ≡ d) ⊎ (In (first_or d test xs) xs × (test (first_or d test xs) ≡ true)) → (t : Bool) → test x ≡ t
          → (cond t x (first_or d test xs) ≡ d) ⊎ (In (cond t x (first_or d test xs)) (x ∷ xs) × (test (cond t x (first_or d test xs)) ≡ true))
      go ih true h = inr (Memᴰ.head refl, h)
      go (inl e) false h = inl e
      go (inr k) false h = inr (Memᴰ.tail k.0, k.1)

-- ---- k positions from p on

pub up_in : (k p x : ℕ) → In x (up_from k p) → (p ≤ x) × (x < p + k)
unfolding up_from
up_in zero p x m = absurd (Memᴰ.not-nil m)
up_in (suc k) p x m = ⊎_elim (λ e. (omega arith, omega arith)) (λ l. let z = up_in k (suc p) x l in (omega (arith, z.0), omega (arith, z.1))) (Memᴰ.cases_cons m)

pub in_up : (k p x : ℕ) → p ≤ x → x < p + k → In x (up_from k p)
unfolding up_from
in_up zero p x h l = absurd (omega arith)
in_up (suc k) p x h l = go (λ a b. in_up k (suc p) x a b) (eqb x p) refl
  where
    go : (suc p ≤ x → x < suc p + k → In x (up_from k (suc p))) → (t : Bool) → eqb x p ≡ t → In x (p ∷ up_from k (suc p))
    go ih true e = Memᴰ.head (eqb-true x p e)
    go ih false e = let n = eqb-false x p e in Memᴰ.tail (ih (omega arith) (omega arith))

pub up_rises : (k p : ℕ) → Rises p (up_from k p)
unfolding up_from
up_rises zero p = none
up_rises (suc k) p = next {low = p} {x = p} (omega arith) (up_rises k (suc p))

-- ---- a position put in

pub put_rises : {low : ℕ} {xs : List ℕ} (p : ℕ) → low ≤ p → Rises low xs → Rises low (inserted p xs)
unfolding inserted
put_rises p h none = next h none
put_rises {low} p h (next {x = x} {xs = xs} k r) = go (λ l. put_rises p l r) (ltb p x) (eqb p x) refl refl
  where
    go : (suc x ≤ p → Rises (suc x) (inserted p xs)) → (s t : Bool) → ltb p x ≡ s → eqb p x ≡ t → Rises low (cond s (p ∷ x ∷ xs) (cond t (x ∷ xs) (x ∷ inserted p xs)))
    go ih true t a b = next h (next (ltb-true p x a) r)
    go ih false true a b = next k r
    go ih false false a b = next k (ih (let u = ltb-false p x a in let v = eqb-false p x b in omega arith))

module _ (p : ℕ) where
  pub put_in : (xs : List ℕ) → In p (inserted p xs)
  unfolding inserted
  put_in [] = Memᴰ.head refl
  put_in (x ∷ xs) = go (put_in xs) (ltb p x) (eqb p x) refl
    where
      go : In p (inserted p xs) → (s t : Bool) → eqb p x ≡ t → In p (cond s (p ∷ x ∷ xs) (cond t (x ∷ xs) (x ∷ inserted p xs)))
      go ih true t e = Memᴰ.head refl
      go ih false true e = Memᴰ.head (eqb-true p x e)
      go ih false false e = Memᴰ.tail ih

  pub put_keeps : (y : ℕ) (xs : List ℕ) → In y xs → In y (inserted p xs)
  unfolding inserted
  put_keeps y [] m = Memᴰ.tail m
  put_keeps y (x ∷ xs) m = go (λ k. put_keeps y xs k) (ltb p x) (eqb p x) (Memᴰ.cases_cons m)
    where
      go : (In y xs → In y (inserted p xs)) → (s t : Bool) → (y ≡ x) ⊎ In y xs → In y (cond s (p ∷ x ∷ xs) (cond t (x ∷ xs) (x ∷ inserted p xs)))
      go ih true t k = Memᴰ.tail m
      go ih false true k = m
      go ih false false (inl e) = Memᴰ.head e
      go ih false false (inr k) = Memᴰ.tail (ih k)

  pub put_only : (y : ℕ) (xs : List ℕ) → In y (inserted p xs) → (y ≡ p) ⊎ In y xs
  unfolding inserted
  put_only y [] m = Memᴰ.cases_cons m
  put_only y (x ∷ xs) m = go (λ k. put_only y xs k) (ltb p x) (eqb p x) m
    where
      back : (In y (inserted p xs) → (y ≡ p) ⊎ In y xs) → (y ≡ x) ⊎ In y (inserted p xs) → (y ≡ p) ⊎ In y (x ∷ xs)
      back ih (inl e) = inr (Memᴰ.head e)
      back ih (inr k) = ⊎_elim (λ e. inl e) (λ l. inr (Memᴰ.tail l)) (ih k)

      go : (In y (inserted p xs) → (y ≡ p) ⊎ In y xs) → (s t : Bool) → In y (cond s (p ∷ x ∷ xs) (cond t (x ∷ xs) (x ∷ inserted p xs))) → (y ≡ p) ⊎ In y (x ∷ xs)
      go ih true t k = Memᴰ.cases_cons k
      go ih false true k = inr k
      go ih false false k = back ih (Memᴰ.cases_cons k)

  pub put_size : (xs : List ℕ) → (In p xs → ⊥) → length (inserted p xs) ≡ suc (length xs)
  unfolding inserted
  put_size [] n = refl
  put_size (x ∷ xs) n = go (put_size xs (λ m. n (Memᴰ.tail m))) (ltb p x) (eqb p x) refl
    where
      go : length (inserted p xs) ≡ suc (length xs) → (s t : Bool) → eqb p x ≡ t → length (cond s (p ∷ x ∷ xs) (cond t (x ∷ xs) (x ∷ inserted p xs))) ≡ suc (suc (length xs))
      go ih true t e = refl
      go ih false true e = absurd (n (Memᴰ.head (eqb-true p x e)))
      go ih false false e = ap suc ih
