-- The tests of the cells, and two batches in one. Assumes nothing.
use Prim.Native.Nat.{ℕ, ◌+◌, ◌-◌, ◌≤◌, ◌<◌}
use native.Mathlib.Omega.{arith}
use native.Mathlib.Decide.{dec_lt}
use mathlib.Core.Path.{◌≡◌, refl, sym, ◌∙◌, ap}
use mathlib.Core.Bool.{Bool, true, false, cond}
use mathlib.Core.List.{List, [], ◌++◌, append-nil}
use lib.ListN.{length, get_or, set, take, drop}
use lib.Seq.{take-length, drop-length}
use lib.Dec.{ltb, eqb}
use borrow.Author.Tests.{lt-ltb, le-ltb, ltb-true, ltb-false, eq-eqb, ne_eqb}
use Rattle.cells.proofs.Filling.{Filled, filled_none, filled_more, filled_all, unmoved, long}
use Rattle.figures_rules.specs.Figures.{figure, larger, join_cell, joined, limit, max_texts, some, full}
use Rattle.figures_rules.proofs.Rows.{none_of}
use Rattle.figures_rules.proofs.Joining.{larger_least, joined_long, joined_at}
use Rattle.figures_rules.proofs.Filling.{full_by, not_full}

-- ---- limits

pub limit_texts : (i : ℕ) → i ≡ 0 → 4294967295 ≡ limit i
limit_texts i e = sym (ap (λ (t : Bool). cond t max_texts 18446744073709551615) (eq-eqb i 0 e))

pub limit_other : (i : ℕ) → (i ≡ 0 → ⊥) → 18446744073709551615 ≡ limit i
limit_other i e = sym (ap (λ (t : Bool). cond t max_texts 18446744073709551615) (ne_eqb i 0 e))

-- ---- one cell

module _ (i x y : ℕ) where
  pub larger_is : i ≡ 9 → larger x y ≡ join_cell i x y
  larger_is e = sym (ap (λ (t : Bool). cond t (larger x y) (x + y)) (eq-eqb i 9 e))

  pub sum_is : (i ≡ 9 → ⊥) → x + y ≡ join_cell i x y
  sum_is e = sym (ap (λ (t : Bool). cond t (larger x y) (x + y)) (ne_eqb i 9 e))

  pub second_is : i ≡ 9 → x < y → y ≡ join_cell i x y
  second_is e l = sym (ap (λ (t : Bool). cond t y x) (lt-ltb x y l)) ∙ larger_is e

  pub first_is : i ≡ 9 → y ≤ x → x ≡ join_cell i x y
  first_is e l = sym (ap (λ (t : Bool). cond t y x) (le-ltb x y l)) ∙ larger_is e

  -- the larger of two cells of 64 bits has 64 bits
  pub most_fits : i ≡ 9 → x < 18446744073709551616 → y < 18446744073709551616 → false ≡ ltb (limit i) (join_cell i x y)
  most_fits e h l =
      let m = limit_other i (λ z. omega arith) in
      sym (le-ltb (limit i) (join_cell i x y) (omega (arith, m, larger_is e, larger_least x y 18446744073709551615 (omega arith) (omega arith))))

  pub first_over : (i ≡ 9 → ⊥) → {m : ℕ} → m ≡ limit i → m < x → true ≡ ltb (limit i) (join_cell i x y)
  first_over e q l = sym (lt-ltb (limit i) (join_cell i x y) (omega (arith, q, sum_is e)))

  pub both_over : (i ≡ 9 → ⊥) → {m : ℕ} → m ≡ limit i → x ≤ m → ltb (m - x) y ≡ ltb (limit i) (join_cell i x y)
  both_over e {m} q l = go (ltb (m - x) y) refl
    where
      go : (t : Bool) → ltb (m - x) y ≡ t → ltb (m - x) y ≡ ltb (limit i) (join_cell i x y)
      go true z = z ∙ sym (lt-ltb (limit i) (join_cell i x y) (omega (arith, q, sum_is e, ltb-true (m - x) y z)))
      go false z = z ∙ sym (le-ltb (limit i) (join_cell i x y) (omega (arith, q, sum_is e, ltb-false (m - x) y z)))

  -- a sum that fits its limit fits its cell
  pub sum_fits : (i ≡ 9 → ⊥) → join_cell i x y ≤ limit i → x + y < 18446744073709551616
  sum_fits e l = go (dec_lt 0 i)
    where
      go : Dec (0 < i) → x + y < 18446744073709551616
      go (yes z) = omega (arith, l, sum_is e, limit_other i (λ q. omega arith))
      go (no z) = omega (arith, l, sum_is e, limit_texts i (omega arith))

-- ---- the loop that looks for a figure that is too large

pub record Under (a b : List ℕ) (i : ℕ) : Type 0 where
  pub upto : i ≤ 16
  pub each : (k : ℕ) → k < i → ltb (limit k) (join_cell k (figure a k) (figure b k)) ≡ false

pub under_none : (a b : List ℕ) → Under a b 0
under_none a b = record { upto = omega arith; each = λ k h. absurd (omega arith) }

module _ {a b : List ℕ} {i : ℕ} (u : Under a b i) where
  pub under_more : i < 16 → ltb (limit i) (join_cell i (figure a i) (figure b i)) ≡ false → Under a b (i + 1)
  under_more h e = record { upto = omega arith; each = λ k l. go k l (dec_lt k i) }
    where
      go : (k : ℕ) → k < i + 1 → Dec (k < i) → ltb (limit k) (join_cell k (figure a k) (figure b k)) ≡ false
      go k l (yes z) = u.each k z
      go k l (no z) = let q : k ≡ i = omega arith in ap (λ (j : ℕ). ltb (limit j) (join_cell j (figure a j) (figure b j))) q ∙ e

  pub under_all : 16 ≤ i → false ≡ full a b
  under_all h = sym (not_full a b (λ k l. ltb-false (limit k) (join_cell k (figure a k) (figure b k)) (u.each k (omega (arith, u.upto)))))

pub over_is : (a b : List ℕ) (i : ℕ) → i < 16 → ltb (limit i) (join_cell i (figure a i) (figure b i)) ≡ true → true ≡ full a b
over_is a b i h e = sym (full_by a b i h (ltb-true (limit i) (join_cell i (figure a i) (figure b i)) e))

-- ---- the loop that joins

pub cell_fits : (a b : List ℕ) → full a b ≡ false → (i : ℕ) → i < 16 → join_cell i (figure a i) (figure b i) ≤ limit i
unfolding full
cell_fits a b e i h = ltb-false (limit i) (join_cell i (figure a i) (figure b i)) (none_of (λ (k : ℕ). ltb (limit k) (join_cell k (figure a k) (figure b k))) 16 e i h)

pub record Joining (a b row : List ℕ) (i : ℕ) : Type 0 where
  pub size : length a ≡ 16
  pub fit : full a b ≡ false
  pub filled : Filled (joined a b) a row 16 i

pub joining_none : (a b : List ℕ) → length a ≡ 16 → full a b ≡ false → Joining a b a 0
joining_none a b l e = record { size = l; fit = e; filled = filled_none (joined a b) a 16 (omega (arith, joined_long a b)) (omega arith) }

module _ {a b row : List ℕ} {i : ℕ} (f : Joining a b row i) where
  pub row_size : length row ≡ length a
  row_size = long f.filled

  pub joining_fits : i < 16 → join_cell i (get_or row i 0) (get_or b i 0) ≤ limit i
  joining_fits h = omega (arith, cell_fits a b f.fit i h, ap (λ (x : ℕ). join_cell i x (figure b i)) (unmoved f.filled h))

  pub joining_more : {x : ℕ} → i < 16 → x ≡ join_cell i (get_or row i 0) (get_or b i 0) → Joining a b (set row i x) (i + 1)
  joining_more {x} h e =
      record {
        size = f.size;
        fit = f.fit;
        filled = filled_more f.filled x h (e ∙ ap (λ (z : ℕ). join_cell i z (figure b i)) (unmoved f.filled h) ∙ sym (joined_at a b i h));
      }

  pub joining_all : 16 ≤ i → row ≡ joined a b
  joining_all h =
      filled_all f.filled h
      ∙ (λ j. (ap (λ (k : ℕ). take k (joined a b)) (sym (joined_long a b)) ∙ take-length (joined a b)) j ++ (ap (λ (k : ℕ). drop k a) (sym f.size) ∙ drop-length a) j)
      ∙ append-nil (joined a b)
