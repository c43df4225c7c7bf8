-- The order of words by scalars: equal starts decide nothing, and of two words that differ one
-- stands first. Assumes nothing.
use Prim.Native.Nat.{ℕ, ◌≤◌, ◌<◌}
use native.Mathlib.Omega.{arith}
use native.Mathlib.Decide.{dec_lt}
use mathlib.Core.Path.{◌≡◌, refl, sym, ap, ◌∙◌}
use mathlib.Core.Bool.{Bool, true, cond}
use mathlib.Core.List.{List, [], ◌∷◌}
use borrow.Author.Tests.{lt-ltb, eq-eqb, ne_eqb}
use lib.Dec.{ltb}
use lib.ListN.{length}
use Rattle.trie_pool.specs.Words.{rev}
use Rattle.image_rules.specs.Order.{below}

-- equal first scalars decide nothing
pub below_same : (x : ℕ) (v w : List ℕ) → below (x ∷ v) (x ∷ w) ≡ below v w
unfolding below
below_same x v w = ap (λ (b : Bool). cond b (below v w) (ltb x x)) (eq-eqb x x refl)

-- nor do equal starts
pub below_rev : (u v w : List ℕ) → below (rev u v) (rev u w) ≡ below v w
below_rev [] v w = refl
below_rev (x ∷ u) v w = below_rev u (x ∷ v) (x ∷ w) ∙ below_same x v w

pub below_less : (x y : ℕ) (v w : List ℕ) → x < y → below (x ∷ v) (y ∷ w) ≡ true
unfolding below
below_less x y v w h = ap (λ (b : Bool). cond b (below v w) (ltb x y)) (ne_eqb x y (λ e. omega arith)) ∙ lt-ltb x y h

pub below_nil : (w : List ℕ) → 1 ≤ length w → below [] w ≡ true
unfolding below
below_nil [] h = absurd (omega arith)
below_nil (x ∷ w) h = refl

-- of two words one stands first, or they are the same
pub data Ordered (v w : List ℕ) : Type 0 where
  before : below v w ≡ true → Ordered v w
  same : v ≡ w → Ordered v w
  behind : below w v ≡ true → Ordered v w

pub ordered : (v w : List ℕ) → Ordered v w
unfolding below
ordered [] [] = same refl
ordered [] (y ∷ w) = before refl
ordered (x ∷ v) [] = behind refl
ordered (x ∷ v) (y ∷ w) = go (dec_lt x y) (dec_lt y x) (ordered v w)
  where
    go : Dec (x < y) → Dec (y < x) → Ordered v w → Ordered (x ∷ v) (y ∷ w)
    go (yes a) b o = before (below_less x y v w a)
    go (no a) (yes b) o = behind (below_less y x w v b)
    go (no a) (no b) (before h) = let e : x ≡ y = omega arith in before (ap (λ (z : ℕ). below (z ∷ v) (y ∷ w)) e ∙ below_same y v w ∙ h)
    go (no a) (no b) (same h) = let e : x ≡ y = omega arith in same cc
    go (no a) (no b) (behind h) = let e : y ≡ x = omega arith in behind (ap (λ (z : ℕ). below (z ∷ w) (x ∷ v)) e ∙ below_same x w v ∙ h)
