-- How many of k positions from p on pass a test. Assumes nothing.
use Prim.Native.Nat.{ℕ, zero, suc, ◌+◌, ◌≤◌, ◌<◌}
use native.Mathlib.Omega.{arith}
use mathlib.Core.Path.{◌≡◌, refl, sym, ◌∙◌, ap}
use mathlib.Core.Bool.{Bool, true, false}
use mathlib.Core.List.{List}
use lib.ListN.{length}
use lib.Dec.{eqb}
use borrow.Author.Tests.{eqb-true, eqb-false}
use Rattle.newmm_rules.specs.Positions.{up_from, keep, those, how_many}

abbrev grown : Bool → ℕ → ℕ
grown true k = suc k
grown false k = k

length_keep : (t : Bool) (x : ℕ) (xs : List ℕ) → length (keep t x xs) ≡ grown t (length xs)
length_keep true x xs = refl
length_keep false x xs = refl

none_many : (test : ℕ → Bool) (p : ℕ) → how_many test 0 p ≡ 0
unfolding how_many up_from those
none_many test p = refl

next_many : (test : ℕ → Bool) (k p : ℕ) → how_many test (suc k) p ≡ grown (test p) (how_many test k (suc p))
unfolding how_many up_from those
next_many test k p = length_keep (test p) p (those test (up_from k (suc p)))

-- equal tests, equal numbers
pub same_many : (t u : ℕ → Bool) (k p : ℕ) → ((x : ℕ) → p ≤ x → t x ≡ u x) → how_many t k p ≡ how_many u k p
same_many t u zero p h = none_many t p ∙ sym (none_many u p)
same_many t u (suc k) p h =
    next_many t k p ∙ ap (λ (b : Bool). grown b (how_many t k (suc p))) (h p (omega arith)) ∙ ap (grown (u p)) (same_many t u k (suc p) (λ x l. h x (omega arith))) ∙ sym (next_many u k p)

pub many_most : (test : ℕ → Bool) (k p : ℕ) → how_many test k p ≤ k
many_most test zero p = omega (arith, none_many test p)
many_most test (suc k) p = go (test p) (next_many test k p) (many_most test k (suc p))
  where
    go : (t : Bool) → how_many test (suc k) p ≡ grown t (how_many test k (suc p)) → how_many test k (suc p) ≤ k → how_many test (suc k) p ≤ suc k
    go true e h = omega arith
    go false e h = omega arith

pub many_all : (test : ℕ → Bool) (k p : ℕ) → ((x : ℕ) → p ≤ x → x < p + k → test x ≡ true) → how_many test k p ≡ k
many_all test zero p h = none_many test p
many_all test (suc k) p h =
    next_many test k p ∙ ap (λ (b : Bool). grown b (how_many test k (suc p))) (h p (omega arith) (omega arith)) ∙ ap suc (many_all test k (suc p) (λ x l r. h x (omega arith) (omega arith)))

-- x alone passed the one test and not the other
pub one_fewer : (t u : ℕ → Bool) (x k p : ℕ) → t x ≡ true → u x ≡ false → ((y : ℕ) → (y ≡ x → ⊥) → u y ≡ t y) → p ≤ x → x < p + k → suc (how_many u k p) ≡ how_many t k p
one_fewer t u x zero p yes' no' same l r = absurd (omega arith)
one_fewer t u x (suc k) p yes' no' same l r = go (λ a b. one_fewer t u x k (suc p) yes' no' same a b) (eqb p x) refl
  where
    out : (b : Bool) → suc (how_many u k (suc p)) ≡ how_many t k (suc p) → suc (grown b (how_many u k (suc p))) ≡ grown b (how_many t k (suc p))
    out true i = ap suc i
    out false i = i

    go : (suc p ≤ x → x < suc p + k → suc (how_many u k (suc p)) ≡ how_many t k (suc p)) → (b : Bool) → eqb p x ≡ b → suc (how_many u (suc k) p) ≡ how_many t (suc k) p
    go ih true e =
        let q = eqb-true p x e in
        ap suc (next_many u k p ∙ ap (λ (b : Bool). grown b (how_many u k (suc p))) (ap u q ∙ no') ∙ same_many u t k (suc p) (λ y h. same y (λ f. omega arith)))
        ∙ sym (next_many t k p ∙ ap (λ (b : Bool). grown b (how_many t k (suc p))) (ap t q ∙ yes'))
    go ih false e =
        let q = eqb-false p x e in
        ap suc (next_many u k p ∙ ap (λ (b : Bool). grown b (how_many u k (suc p))) (same p q)) ∙ out (t p) (ih (omega arith) (omega arith)) ∙ sym (next_many t k p)
