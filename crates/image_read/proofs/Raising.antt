-- The loop that counts the new nodes of a word. Assumes nothing.
use mathlib.Core.Path.{◌≡◌, refl, sym, ap, ◌∙◌}
use mathlib.Core.Bool.{Bool, true, false, cond, ◌&&◌}
use mathlib.Core.List.{List}
use Prim.Native.Nat.{ℕ, ◌+◌, ◌≤◌, ◌<◌}
use native.Mathlib.Omega.{arith}
use native.Mathlib.Decide.{dec_lt}
use borrow.Author.Tests.{lt-ltb, le-ltb, le-leb, lt-leb}
use lib.Dec.{ltb, leb}
use lib.ListN.{length, get_or, set, length-set}
use lib.Seq.{get_or-set_same, get_or-set_other}
use Rattle.image_rules.specs.inner.News.{new}
use Rattle.image_read.specs.inner.Surveys.{Raises}

pub new_low : (l n d : ℕ) → d ≤ l → new l n d ≡ 0
new_low l n d h = simp (le-ltb l d h)

and_no : (a b : Bool) → b ≡ false → (a && b) ≡ false
and_no true b e = e
and_no false b e = refl

pub new_high : (l n d : ℕ) → n < d → new l n d ≡ 0
new_high l n d h = ap (λ (b : Bool). cond b 1 0) (and_no (ltb l d) (leb d n) (lt-leb d n h))

pub new_in : (l n d : ℕ) → l < d → d ≤ n → new l n d ≡ 1
new_in l n d h k = simp (lt-ltb l d h, le-leb d n k)

pub record Raising (levels₀ levels : List ℕ) (l d : ℕ) : Type 0 where
  pub from : l ≤ d
  pub is : (k : ℕ) → get_or levels k 0 ≡ get_or levels₀ k 0 + new l d k
  pub many : length levels ≡ length levels₀

pub raising_none : (levels : List ℕ) (l : ℕ) → Raising levels levels l l
raising_none levels l = record { from = omega arith; is = λ k. go k (dec_lt l k); many = refl }
  where
    go : (k : ℕ) → Dec (l < k) → get_or levels k 0 ≡ get_or levels k 0 + new l l k
    go k (yes h) = omega (arith, new_high l l k h)
    go k (no h) = omega (arith, new_low l l k (omega arith))

-- a turn: the next level
pub raising_next : {levels₀ levels : List ℕ} {l d : ℕ} → Raising levels₀ levels l d → d + 1 < length levels₀ → Raising levels₀ (set levels (d + 1) (get_or levels (d + 1) 0 + 1)) l (d + 1)
raising_next {levels₀} {levels} {l} {d} r h = record {
  from = omega (arith, r.from);
  is = λ k. go k (dec_lt k (d + 1)) (dec_lt (d + 1) k);
  many = length-set levels (d + 1) (get_or levels (d + 1) 0 + 1) ∙ r.many;
}
  where
    same : (k : ℕ) → (k ≡ d + 1 → ⊥) → get_or (set levels (d + 1) (get_or levels (d + 1) 0 + 1)) k 0 ≡ get_or levels k 0
    same k n = get_or-set_other levels (d + 1) k (get_or levels (d + 1) 0 + 1) 0 n

    go : (k : ℕ) → Dec (k < d + 1) → Dec (d + 1 < k) → get_or (set levels (d + 1) (get_or levels (d + 1) 0 + 1)) k 0 ≡ get_or levels₀ k 0 + new l (d + 1) k
    go k (yes a) b = low (dec_lt l k)
      where
        low : Dec (l < k) → get_or (set levels (d + 1) (get_or levels (d + 1) 0 + 1)) k 0 ≡ get_or levels₀ k 0 + new l (d + 1) k
        low (yes q) = omega (arith, same k (omega arith), r.is k, new_in l d k q (omega arith), new_in l (d + 1) k q (omega arith))
        low (no q) = omega (arith, same k (omega arith), r.is k, new_low l d k (omega arith), new_low l (d + 1) k (omega arith))
    go k (no a) (yes b) = omega (arith, same k (omega arith), r.is k, new_high l d k (omega arith), new_high l (d + 1) k (omega arith))
    go k (no a) (no b) =
        let z : k ≡ d + 1 = omega arith in
        let q : get_or (set levels (d + 1) (get_or levels (d + 1) 0 + 1)) (d + 1) 0 ≡ get_or levels (d + 1) 0 + 1 = get_or-set_same levels (d + 1) (get_or levels (d + 1) 0 + 1) 0 (omega (arith, r.many)) in
        let t : get_or levels (d + 1) 0 + 1 ≡ get_or levels₀ (d + 1) 0 + new l (d + 1) (d + 1) = omega (arith, r.is (d + 1), new_high l d (d + 1) (omega arith), new_in l (d + 1) (d + 1) (omega (arith, r.from)) (omega arith)) in
        ap (λ (i : ℕ). get_or (set levels (d + 1) (get_or levels (d + 1) 0 + 1)) i 0) z ∙ q ∙ t ∙ ap (λ (i : ℕ). get_or levels₀ i 0 + new l (d + 1) i) (sym z)

pub raising_done : {levels₀ levels : List ℕ} {l d n : ℕ} → Raising levels₀ levels l d → d ≡ n → Raises levels₀ levels l n
raising_done {levels₀} {levels} {l} {d} {n} r e = record { is = λ k. r.is k ∙ ap (λ (i : ℕ). get_or levels₀ k 0 + new l i k) e; many = r.many }

-- the count of a level that is about to be raised is as it was
pub raising_still : {levels₀ levels : List ℕ} {l d : ℕ} → Raising levels₀ levels l d → get_or levels (d + 1) 0 ≡ get_or levels₀ (d + 1) 0
raising_still {levels₀} {levels} {l} {d} r = omega (arith, r.is (d + 1), new_high l d (d + 1) (omega arith))

-- at most one more
pub new_one : (l n d : ℕ) → new l n d ≤ 1
new_one l n d = go (ltb l d && leb d n)
  where
    go : (b : Bool) → cond b 1 0 ≤ 1
    go true = omega arith
    go false = omega arith
