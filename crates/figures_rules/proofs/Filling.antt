-- When figures are full. Assumes nothing.
use Prim.Native.Nat.{ℕ, zero, suc, ◌+◌, ◌*◌, ◌≤◌, ◌<◌}
use native.Mathlib.Omega.{arith}
use native.Mathlib.Decide.{dec_lt}
use mathlib.Core.Path.{◌≡◌, refl, sym, ◌∙◌, ap}
use mathlib.Core.Bool.{Bool, true, false, cond}
use mathlib.Core.List.{List}
use lib.ListN.{length}
use lib.Dec.{ltb, eqb}
use borrow.Author.Tests.{lt-ltb, le-ltb, ltb-true, ltb-false, ne_eqb}
use Rattle.figures_rules.specs.Figures.{texts, figure, larger, join_cell, joined, limit, max_texts, some, full, after}
use Rattle.figures_rules.proofs.Rows.{some_one, some_none}
use Rattle.figures_rules.proofs.Joining.{larger_least, joined_at}

module _ (a b : List ℕ) where
  -- one figure is too large
  pub full_by : (i : ℕ) → i < 16 → limit i < join_cell i (figure a i) (figure b i) → full a b ≡ true
  unfolding full
  full_by i h l = some_one (λ (k : ℕ). ltb (limit k) (join_cell k (figure a k) (figure b k))) 16 i h (lt-ltb (limit i) (join_cell i (figure a i) (figure b i)) l)

  -- none is
  pub not_full : ((i : ℕ) → i < 16 → join_cell i (figure a i) (figure b i) ≤ limit i) → full a b ≡ false
  unfolding full
  not_full h = some_none (λ (k : ℕ). ltb (limit k) (join_cell k (figure a k) (figure b k))) 16 (λ i l. le-ltb (limit i) (join_cell i (figure a i) (figure b i)) (h i l))

  pub after_full : full a b ≡ true → after a b ≡ a
  unfolding after
  after_full e = ap (λ (t : Bool). cond t a (joined a b)) e

  pub after_joined : full a b ≡ false → after a b ≡ joined a b
  unfolding after
  after_joined e = ap (λ (t : Bool). cond t a (joined a b)) e

-- ---- figures that a run gives

-- no figure is more than 4,294,967,296 for each text
pub record Bounded (a : List ℕ) : Type 0 where
  pub each : (i : ℕ) → i < 16 → figure a i ≤ 4294967296 * figure a texts

-- a figure of both is at most the sum
cell_most : (i x y : ℕ) → join_cell i x y ≤ x + y
cell_most i x y = go (eqb i 9)
  where
    go : (t : Bool) → cond t (larger x y) (x + y) ≤ x + y
    go true = larger_least x y (x + y) (omega arith) (omega arith)
    go false = omega arith

module _ {a b : List ℕ} (p : Bounded a) (q : Bounded b) where
  texts_both : figure (joined a b) texts ≡ figure a texts + figure b texts
  texts_both = joined_at a b 0 (omega arith)

  pub bounded_joined : Bounded (joined a b)
  bounded_joined =
      record {
        each = λ i h. omega (arith, joined_at a b i h, texts_both, cell_most i (figure a i) (figure b i), p.each i h, q.each i h);
      }

  pub bounded_after : Bounded (after a b)
  unfolding after
  bounded_after = go (full a b)
    where
      go : (t : Bool) → Bounded (cond t a (joined a b))
      go true = p
      go false = bounded_joined

  -- FULL EXACTLY IF texts would pass their limit
  pub full_by_texts : full a b ≡ ltb max_texts (figure a texts + figure b texts)
  full_by_texts = go (ltb max_texts (figure a texts + figure b texts)) refl
    where
      limit_of : (i : ℕ) → (i ≡ 0 → ⊥) → limit i ≡ 18446744073709551615
      limit_of i h = ap (λ (t : Bool). cond t max_texts 18446744073709551615) (ne_eqb i 0 h)

      inside : figure a texts + figure b texts ≤ max_texts → (i : ℕ) → i < 16 → Dec (0 < i) → join_cell i (figure a i) (figure b i) ≤ limit i
      inside l i h (yes z) = omega (arith, limit_of i (λ e. omega arith), cell_most i (figure a i) (figure b i), p.each i h, q.each i h)
      inside l zero h (no z) = l
      inside l (suc i) h (no z) = absurd (omega arith)

      go : (t : Bool) → ltb max_texts (figure a texts + figure b texts) ≡ t → full a b ≡ t
      go true e = full_by a b 0 (omega arith) (ltb-true max_texts (figure a texts + figure b texts) e)
      go false e = not_full a b (λ i h. inside (ltb-false max_texts (figure a texts + figure b texts) e) i h (dec_lt 0 i))
