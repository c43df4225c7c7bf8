-- The first position that passes a test. Assumes nothing.
use Prim.Native.Nat.{ℕ, zero, suc, ◌+◌, ◌≤◌, ◌<◌}
use native.Mathlib.Omega.{arith}
use native.Mathlib.Decide.{dec_lt}
use mathlib.Core.Path.{◌≡◌, refl, sym, ◌∙◌, ap}
use mathlib.Core.Bool.{Bool, true, false, cond}
use Rattle.newmm_rules.specs.Positions.{up_from, first_or}

module _ (d : ℕ) (test : ℕ → Bool) where
  -- one turn
  next : (k p : ℕ) {t : Bool} → test p ≡ t → first_or d test (up_from (suc k) p) ≡ cond t p (first_or d test (up_from k (suc p)))
  unfolding first_or up_from
  next k p e = ap (λ (t : Bool). cond t p (first_or d test (up_from k (suc p)))) e

  -- none passes
  pub first_none : (k p : ℕ) → ((q : ℕ) → p ≤ q → q < p + k → test q ≡ false) → first_or d test (up_from k p) ≡ d
  unfolding first_or up_from
  first_none zero p h = refl
  first_none (suc k) p h = next k p (h p (omega arith) (omega arith)) ∙ first_none k (suc p) (λ q a b. h q (omega arith) (omega arith))

  -- e passes, and none before it
  pub first_is : (k p e : ℕ) → p ≤ e → e < p + k → test e ≡ true → ((q : ℕ) → p ≤ q → q < e → test q ≡ false) → first_or d test (up_from k p) ≡ e
  first_is zero p e h l t n = absurd (omega arith)
  first_is (suc k) p e h l t n = go (λ a b. first_is k (suc p) e a b t (λ q c. n q (omega arith))) (dec_lt p e)
    where
      go : (suc p ≤ e → e < suc p + k → first_or d test (up_from k (suc p)) ≡ e) → Dec (p < e) → first_or d test (up_from (suc k) p) ≡ e
      go ih (yes o) = next k p (n p (omega arith) o) ∙ ih (omega arith) (omega arith)
      go ih (no o) = let q : p ≡ e = omega arith in next k p (ap test q ∙ t) ∙ q

  -- those before it don't pass
  pub first_past : (k p q : ℕ) → p ≤ q → q < p + k → q < first_or d test (up_from k p) → test q ≡ false
  first_past zero p q h l o = absurd (omega arith)
  first_past (suc k) p q h l o = go (λ a b c. first_past k (suc p) q a b c) (test p) refl (dec_lt p q)
    where
      go : (suc p ≤ q → q < suc p + k → q < first_or d test (up_from k (suc p)) → test q ≡ false) → (t : Bool) → test p ≡ t → Dec (p < q) → test q ≡ false
      go ih true e m = let f = next k p e in absurd (omega arith)
      go ih false e (yes m) = let f = next k p e in ih (omega arith) (omega arith) (omega arith)
      go ih false e (no m) = let i : q ≡ p = omega arith in ap test i ∙ e
