-- Rows of positions.
use Rattle.std.specs.Prelude.{ℕ, zero, suc, ◌≤◌, Bool, true, false, cond, ◌||◌, length, ltb, eqb}
use mathlib.Core.List.{List, [], ◌∷◌, Memᴰ}

-- k positions from p on
unfoldable pub up_from : ℕ → ℕ → List ℕ
up_from zero p = []
up_from (suc k) p = p ∷ up_from k (suc p)

-- x in front, if the test has passed
abbrev pub keep : Bool → ℕ → List ℕ → List ℕ
keep true x xs = x ∷ xs
keep false x xs = xs

-- those that pass the test, in order
unfoldable pub those : (ℕ → Bool) → List ℕ → List ℕ
those test [] = []
those test (x ∷ xs) = keep (test x) x (those test xs)

-- how many of k positions from p on pass the test
unfoldable pub how_many : (ℕ → Bool) → ℕ → ℕ → ℕ
how_many test k p = length (those test (up_from k p))

-- the first that passes the test, or d
unfoldable pub first_or : ℕ → (ℕ → Bool) → List ℕ → ℕ
first_or d test [] = d
first_or d test (x ∷ xs) = cond (test x) x (first_or d test xs)

-- some cell passes the test
unfoldable pub any : (ℕ → Bool) → List ℕ → Bool
any test [] = false
any test (x ∷ xs) = test x || any test xs

abbrev pub member : ℕ → List ℕ → Bool
member p xs = any (eqb p) xs

-- p put into rising positions, once
unfoldable pub inserted : ℕ → List ℕ → List ℕ
inserted p [] = p ∷ []
inserted p (x ∷ xs) = cond (ltb p x) (p ∷ x ∷ xs) (cond (eqb p x) (x ∷ xs) (x ∷ inserted p xs))

-- x stands in the row
abbrev pub In {ℓ} : {A : Type ℓ} → A → List A → Type ℓ
In x xs = Memᴰ x xs

-- positions that rise strictly, the first of them at least low
pub data Rises : ℕ → List ℕ → Type 0 where
  none : {low : ℕ} → Rises low []
  next : {low x : ℕ} {xs : List ℕ} → low ≤ x → Rises (suc x) xs → Rises low (x ∷ xs)
