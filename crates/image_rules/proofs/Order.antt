-- Words by scalars: where two part, and which stands first. Assumes nothing.
use mathlib.Core.Path.{◌≡◌, refl, sym, ap, subst, ◌∙◌}
use mathlib.Core.Bool.{Bool, true, false, cond}
use mathlib.Core.List.{List, [], ◌∷◌}
use Prim.Native.Nat.{ℕ, zero, suc, ◌+◌, ◌-◌, ◌≤◌, ◌<◌}
use native.Mathlib.Omega.{arith}
use native.Mathlib.Decide.{dec_lt}
use borrow.Author.Tests.{lt-ltb, le-ltb, ltb-true, eq-eqb, ne_eqb, eqb-true, eqb-false}
use lib.Dec.{ltb, eqb}
use lib.ListN.{length, get_or, take, drop}
use Rattle.trie_pool.proofs.Rules.{clash}
use Rattle.image_rules.specs.Order.{below, common}

pub common_nil : (v : List ℕ) → common v [] ≡ 0
unfolding common
common_nil [] = refl
common_nil (x ∷ v) = refl

pub common_none : (w : List ℕ) → common [] w ≡ 0
unfolding common
common_none w = refl

pub common_same : (x y : ℕ) (v w : List ℕ) → x ≡ y → common (x ∷ v) (y ∷ w) ≡ suc (common v w)
unfolding common
common_same x y v w e = simp (eq-eqb x y e)

pub common_apart : (x y : ℕ) (v w : List ℕ) → (x ≡ y → ⊥) → common (x ∷ v) (y ∷ w) ≡ 0
unfolding common
common_apart x y v w e = simp (ne_eqb x y e)

pub below_same : (x y : ℕ) (v w : List ℕ) → x ≡ y → below (x ∷ v) (y ∷ w) ≡ below v w
unfolding below
below_same x y v w e = simp (eq-eqb x y e)

pub below_apart : (x y : ℕ) (v w : List ℕ) → (x ≡ y → ⊥) → below (x ∷ v) (y ∷ w) ≡ ltb x y
unfolding below
below_apart x y v w e = simp (ne_eqb x y e)

pub below_nil : (v : List ℕ) → below v [] ≡ false
unfolding below
below_nil v = refl

below_none : (y : ℕ) (w : List ℕ) → below [] (y ∷ w) ≡ true
unfolding below
below_none y w = refl

-- two numbers are the same or not
pub data Two (x y : ℕ) : Type 0 where
  one : x ≡ y → Two x y
  other : (x ≡ y → ⊥) → Two x y

pub two : (x y : ℕ) → Two x y
two x y = go (dec_lt x y) (dec_lt y x)
  where
    go : Dec (x < y) → Dec (y < x) → Two x y
    go (yes p) q = other (omega arith)
    go (no p) (yes q) = other (omega arith)
    go (no p) (no q) = one (omega arith)

-- where two words part: they are the same before, and there the first ends or has the smaller
-- scalar
pub record Parts (v w : List ℕ) (l : ℕ) : Type 0 where
  pub same : take l v ≡ take l w
  pub left : l ≤ length v
  pub right : l ≤ length w
  pub end : l ≡ length w → below v w ≡ false
  pub longer : l < length w → l ≡ length v → below v w ≡ true
  pub less : l < length w → l < length v → below v w ≡ ltb (get_or v l 0) (get_or w l 0)

pub parts : (v w : List ℕ) → Parts v w (common v w)
parts v [] =
    subst (Parts v []) (sym (common_nil v)) (record {
      same = refl;
      left = omega arith;
      right = omega arith;
      end = λ e. below_nil v;
      longer = λ h e. absurd (omega arith);
      less = λ h k. absurd (omega arith);
    })
parts [] (y ∷ w) =
    subst (Parts [] (y ∷ w)) (sym (common_none (y ∷ w))) (record {
      same = refl;
      left = omega arith;
      right = omega arith;
      end = λ e. absurd (omega arith);
      longer = λ h e. below_none y w;
      less = λ h k. absurd (omega arith);
    })
parts (x ∷ v) (y ∷ w) = go (two x y) (parts v w)
  where
    go : Two x y → Parts v w (common v w) → Parts (x ∷ v) (y ∷ w) (common (x ∷ v) (y ∷ w))
    go (one e) p =
        subst (Parts (x ∷ v) (y ∷ w)) (sym (common_same x y v w e)) (record {
          same = (λ i. e i ∷ p.same i);
          left = omega (arith, p.left);
          right = omega (arith, p.right);
          end = λ h. below_same x y v w e ∙ p.end (omega arith);
          longer = λ h k. below_same x y v w e ∙ p.longer (omega arith) (omega arith);
          less = λ h k. below_same x y v w e ∙ p.less (omega arith) (omega arith);
        })
    go (other n) p =
        subst (Parts (x ∷ v) (y ∷ w)) (sym (common_apart x y v w n)) (record {
          same = refl;
          left = omega arith;
          right = omega arith;
          end = λ h. absurd (omega arith);
          longer = λ h k. absurd (omega arith);
          less = λ h k. below_apart x y v w n;
        })

-- no word stands before itself
pub below_self : (v : List ℕ) → below v v ≡ false
below_self [] = below_nil []
below_self (x ∷ v) = below_same x x v v refl ∙ below_self v

pub below_trans : (u v w : List ℕ) → below u v ≡ true → below v w ≡ true → below u w ≡ true
below_trans u [] w h k = clash (sym (below_nil u) ∙ h)
below_trans u (y ∷ v) [] h k = clash (sym (below_nil (y ∷ v)) ∙ k)
below_trans [] (y ∷ v) (z ∷ w) h k = below_none z w
below_trans (x ∷ u) (y ∷ v) (z ∷ w) h k = go (two x y) (two y z) (below_trans u v w)
  where
    go : Two x y → Two y z → (below u v ≡ true → below v w ≡ true → below u w ≡ true) → below (x ∷ u) (z ∷ w) ≡ true
    go (one e) (one f) ih = below_same x z u w (e ∙ f) ∙ ih (sym (below_same x y u v e) ∙ h) (sym (below_same y z v w f) ∙ k)
    go (one e) (other f) ih =
        let b = ltb-true y z (sym (below_apart y z v w f) ∙ k) in
        below_apart x z u w (omega arith) ∙ lt-ltb x z (omega arith)
    go (other e) (one f) ih =
        let b = ltb-true x y (sym (below_apart x y u v e) ∙ h) in
        below_apart x z u w (omega arith) ∙ lt-ltb x z (omega arith)
    go (other e) (other f) ih =
        let a = ltb-true x y (sym (below_apart x y u v e) ∙ h) in
        let b = ltb-true y z (sym (below_apart y z v w f) ∙ k) in
        below_apart x z u w (omega arith) ∙ lt-ltb x z (omega arith)
