-- What is asked of the tables, at each of their cells. Assumes nothing.
use Prim.Native.Nat.{ℕ, zero, suc, ◌+◌, ◌/◌, ◌≤◌, ◌<◌}
use native.Mathlib.Omega.{arith}
use native.Mathlib.Nat.{add-zero, zero-add, add-suc, suc-add}
use native.Mathlib.Numerals.{add-one}
use mathlib.Core.Path.{◌≡◌, refl, sym, ◌∙◌, ap, subst}
use mathlib.Core.Bool.{Bool, ◌&&◌}
use mathlib.Core.List.{List, [], ◌∷◌}
use lib.ListN.{length, get_or, drop}
use lib.Dec.{T, ltb, leb}
use borrow.Author.Tests.{ltb-true, leb-true}
use Rattle.tcc_rules.specs.Patterns.{Alternative}
use Rattle.tcc_rules.specs.Rules.{alternatives}
use Rattle.tcc_rules.proofs.Known.{T_left, T_right, T_true}
use Rattle.tcc_engine.specs.Tables.{alternatives_from}
use Rattle.tcc_engine.specs.inner.Trying.{each, stepped, Classed, Tables, tried_at}

each_at : (f : ℕ → Bool) (xs : List ℕ) (k : ℕ) → T (each f xs) → k < length xs → T (f (get_or xs k 0))
each_at f [] k t h = absurd (omega arith)
each_at f (x ∷ xs) zero t h = T_left (f x) (each f xs) t
each_at f (x ∷ xs) (suc k) t h = each_at f xs k (T_right (f x) (each f xs) t) (omega arith)

-- an item's class is one of the 29
pub class_inside : {row : List ℕ} {i x c : ℕ} → Classed row → i < 195 → x ≡ get_or row i 0 → c ≡ x / 256 → c < 29
class_inside {row} {i} {x} {c} v h xs cs =
    let z : get_or row i 0 / 256 < 29 = ltb-true (get_or row i 0 / 256) 29 (T_true (ltb (get_or row i 0 / 256) 29) (each_at (λ (y : ℕ). ltb (y / 256) 29) row i v.all (omega (arith, v.many)))) in
    let w : x / 256 ≡ get_or row i 0 / 256 = ap (λ (y : ℕ). y / 256) xs in
    omega arith

record Steps (n low next : ℕ) : Type 0 where
  up : low ≤ next
  most : next ≤ n

stepped_at : (n low : ℕ) (ss : List ℕ) (k : ℕ) → T (stepped n low ss) → suc k < length ss → Steps n (get_or ss k 0) (get_or ss (suc k) 0)
stepped_at n low [] k t h = absurd (omega arith)
stepped_at n low (s ∷ []) k t h = absurd (omega arith)
stepped_at n low (s ∷ r ∷ ss) zero t h =
    let u = T_right (leb low s) (leb s n && stepped n s (r ∷ ss)) t in
    let v = T_right (leb s n) (stepped n s (r ∷ ss)) u in
    let w = T_right (leb s r) (leb r n && stepped n r ss) v in
    record {
      up = leb-true s r (T_true (leb s r) (T_left (leb s r) (leb r n && stepped n r ss) v));
      most = leb-true r n (T_true (leb r n) (T_left (leb r n) (stepped n r ss) w));
    }
stepped_at n low (s ∷ r ∷ ss) (suc k) t h =
    stepped_at n s (r ∷ ss) k (T_right (leb s n) (stepped n s (r ∷ ss)) (T_right (leb low s) (leb s n && stepped n s (r ∷ ss)) t)) (omega arith)

-- the items of an alternative go from a to e
pub items_inside : {classes row starts : List ℕ} (k : ℕ) → Tables classes row starts → k < 29 → {a e : ℕ} → a ≡ get_or starts k 0 → e ≡ get_or starts (k + 1) 0 → (a ≤ e) × (e ≤ 195)
items_inside {classes} {row} {starts} k v h {a} {e} is_a is_e =
    let s = stepped_at 195 0 starts k v.rising (omega (arith, v.ends)) in
    let z : get_or starts (k + 1) 0 ≡ get_or starts (suc k) 0 = ap (λ (i : ℕ). get_or starts i 0) (add-one k) in
    (omega (arith, s.up), omega (arith, s.most))

from_at : (f : ℕ → Alternative) (n s j : ℕ) → j < n → drop j (alternatives_from f n s) ≡ f (s + j) ∷ drop (suc j) (alternatives_from f n s)
from_at f zero s j h = absurd (omega arith)
from_at f (suc n) s zero h = ap (λ (i : ℕ). f i ∷ alternatives_from f n (suc s)) (sym (add-zero s))
from_at f (suc n) s (suc j) h =
    from_at f n (suc s) j (omega arith) ∙ ap (λ (i : ℕ). f i ∷ drop (suc j) (alternatives_from f n (suc s))) (suc-add s j ∙ sym (add-suc s j))

from_past : (f : ℕ → Alternative) (n s j : ℕ) → n ≤ j → drop j (alternatives_from f n s) ≡ []
from_past f zero s zero h = refl
from_past f zero s (suc j) h = refl
from_past f (suc n) s zero h = absurd (omega arith)
from_past f (suc n) s (suc j) h = from_past f n (suc s) j (omega arith)

module _ {classes row starts : List ℕ} (v : Tables classes row starts) (k : ℕ) where
  -- the alternatives behind the first k: the first of them is the one that the tables have there
  pub behind_is : k < 29 → drop k alternatives ≡ tried_at classes row starts k ∷ drop (suc k) alternatives
  behind_is h =
      subst (λ (l : List Alternative). drop k l ≡ tried_at classes row starts k ∷ drop (suc k) l) v.tried
      (from_at (tried_at classes row starts) 29 0 k h ∙ ap (λ (i : ℕ). tried_at classes row starts i ∷ drop (suc k) (alternatives_from (tried_at classes row starts) 29 0)) (zero-add k))

  pub none_behind : 29 ≤ k → drop k alternatives ≡ []
  none_behind h = subst (λ (l : List Alternative). drop k l ≡ []) v.tried (from_past (tried_at classes row starts) 29 0 k h)
