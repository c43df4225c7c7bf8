-- The last cell of a row that passes a test, and the last space of a sample. Assumes nothing.
use Prim.Native.Nat.{ℕ, zero, suc, ◌+◌, ◌-◌, ◌≤◌, ◌<◌}
use native.Mathlib.Omega.{arith}
use mathlib.Core.Path.{◌≡◌, refl, sym, ◌∙◌, ap}
use mathlib.Core.Bool.{Bool, true, false, cond}
use mathlib.Core.Logic.{◌⊎◌, inl, inr}
use mathlib.Core.List.Memᴰ
use mathlib.Core.List.{List, [], ◌∷◌}
use lib.ListN.{length, get_or, drop}
use lib.Seq.{get_or-take, get_or-drop}
use lib.Dec.{eqb}
use borrow.Author.Tests.{eqb-true, eqb-false, eq-eqb}
use Rattle.lists.specs.Scans.{behind_last}
use Rattle.std.specs.Prelude.{Some, None}
use Rattle.char_string_last_space.specs.Spaces.{is_space, before, last_space}
use Rattle.newmm_rules.specs.Positions.{In}
use Rattle.newmm_rules.specs.Parts.{sample_of}
use Rattle.newmm_rules.specs.Sheet.{space, HoldsSpace}
use Rattle.newmm_rules.proofs.Samples.{sample_long}

module _ (p : ℕ → Bool) where
  -- the last that passes is behind none that does
  pub not_behind : (s : List ℕ) (k : ℕ) → k < length s → p (get_or s k 0) ≡ true → k < behind_last p s
  unfolding behind_last
  not_behind [] k h t = absurd (omega arith)
  not_behind (x ∷ xs) zero h t = go (eqb (behind_last p xs) 0)
    where
      go : (a : Bool) → 0 < cond a (cond (p x) 1 0) (suc (behind_last p xs))
      go true = rw t (omega arith)
      go false = omega arith
  not_behind (x ∷ xs) (suc k) h t = go (not_behind xs k (omega arith) t) (eqb (behind_last p xs) 0) refl
    where
      go : k < behind_last p xs → (a : Bool) → eqb (behind_last p xs) 0 ≡ a → suc k < cond a (cond (p x) 1 0) (suc (behind_last p xs))
      go ih true e = absurd (omega (arith, eqb-true (behind_last p xs) 0 e))
      go ih false e = omega arith

  -- the last that passes does pass
  pub last_passes : (s : List ℕ) (k : ℕ) → behind_last p s ≡ suc k → p (get_or s k 0) ≡ true
  unfolding behind_last
  last_passes [] k e = absurd (omega arith)
  last_passes (x ∷ xs) k e = go (λ j q. last_passes xs j q) (eqb (behind_last p xs) 0) refl (p x) refl k e
    where
      go : ((j : ℕ) → behind_last p xs ≡ suc j → p (get_or xs j 0) ≡ true)
          → (a : Bool) → eqb (behind_last p xs) 0 ≡ a → (b : Bool) → p x ≡ b → (k : ℕ) → cond a (cond b 1 0) (suc (behind_last p xs)) ≡ suc k → p (get_or (x ∷ xs) k 0) ≡ true
      go ih true z true t zero q = t
      go ih true z true t (suc k) q = absurd (omega arith)
      go ih true z false t k q = absurd (omega arith)
      go ih false z b t zero q = absurd (let n = eqb-false (behind_last p xs) 0 z in omega arith)
      go ih false z b t (suc k) q = ih k (omega arith)

  -- where one passes there is a last
  pub some_last : (x : ℕ) → p x ≡ true → (s : List ℕ) → In x s → 0 < behind_last p s
  unfolding behind_last
  some_last x t [] m = absurd (Memᴰ.not-nil m)
  some_last x t (y ∷ ys) m = go (λ k. some_last x t ys k) (eqb (behind_last p ys) 0) refl (Memᴰ.cases_cons m)
    where
      go : (In x ys → 0 < behind_last p ys) → (a : Bool) → eqb (behind_last p ys) 0 ≡ a → (x ≡ y) ⊎ In x ys → 0 < cond a (cond (p y) 1 0) (suc (behind_last p ys))
      go ih true e (inl q) = rw (sym (ap p q) ∙ t) (omega arith)
      go ih true e (inr k) = absurd (omega (arith, ih k, eqb-true (behind_last p ys) 0 e))
      go ih false e k = omega arith

in_at : (x : ℕ) (s : List ℕ) (k : ℕ) → k < length s → get_or s k 0 ≡ x → In x s
in_at x [] k h e = absurd (omega arith)
in_at x (y ∷ ys) zero h e = Memᴰ.head (sym e)
in_at x (y ∷ ys) (suc k) h e = Memᴰ.tail (in_at x ys k (omega arith) e)

-- ---- the sample of a remaining text

behind_of : (n i : ℕ) → before n ≡ Some i → n ≡ suc i
behind_of zero i e = absurd (let z : ◌≡◌ {A = ℕ} 0 1 = cc in omega arith)
behind_of (suc j) i e = let z : j ≡ i = cc in omega arith

none_of : (n : ℕ) → before n ≡ None → n ≡ 0
none_of zero e = refl
none_of (suc j) e = absurd (let z : ◌≡◌ {A = ℕ} 0 1 = cc in omega arith)

module _ (rest : List ℕ) (long : 140 ≤ length rest) where
  pub sampled_at : (i : ℕ) → i < 40 → get_or (sample_of rest) i 0 ≡ get_or rest (100 + i) 0
  sampled_at i h = get_or-take 40 (drop 100 rest) i 0 h ∙ get_or-drop 100 rest i 0

  module _ (i : ℕ) (e : last_space (sample_of rest) ≡ Some i) where
    last_is : behind_last is_space (sample_of rest) ≡ suc i
    last_is = behind_of (behind_last is_space (sample_of rest)) i e

    pub space_at : i < 40 → get_or rest (100 + i) 0 ≡ space
    space_at h = sym (sampled_at i h) ∙ eqb-true (get_or (sample_of rest) i 0) space (last_passes is_space (sample_of rest) i last_is)

    pub no_later : (k : ℕ) → 101 + i ≤ k → k < 140 → get_or rest k 0 ≡ space → ⊥
    no_later k a b q =
        let j : 100 + (k - 100) ≡ k = omega arith in
        let at : get_or (sample_of rest) (k - 100) 0 ≡ space = sampled_at (k - 100) (omega arith) ∙ ap (λ (m : ℕ). get_or rest m 0) j ∙ q in
        let l = not_behind is_space (sample_of rest) (k - 100) (omega (arith, sample_long rest long)) (eq-eqb _ _ at) in
        omega (arith, l, last_is)

    pub holds_space : i < 40 → HoldsSpace rest
    holds_space h = in_at space (sample_of rest) i (omega (arith, sample_long rest long)) (sampled_at i h ∙ space_at h)

  pub no_space : last_space (sample_of rest) ≡ None → HoldsSpace rest → ⊥
  no_space e m = omega (arith, some_last is_space space refl (sample_of rest) m, none_of (behind_last is_space (sample_of rest)) e)
