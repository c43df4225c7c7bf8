-- What the steps of `pluck` come to, cell by cell. Assumes nothing.
use mathlib.Core.Path.{◌≡◌, refl, sym, ap, ◌∙◌}
use mathlib.Core.List.{List}
use Prim.Native.Nat.{ℕ, suc, ◌+◌, ◌-◌, ◌*◌, ◌≤◌, ◌<◌}
use native.Mathlib.Omega.{arith}
use native.Mathlib.Decide.{dec_lt}
use lib.ListN.{length, get_or, set, length-set}
use lib.Seq.{get_or-set_same, get_or-set_other}
use Rattle.trie_pool.specs.Cells.{scalar_at, first_at, count_at, mark_at}
use Rattle.trie_pool.specs.inner.Sound.{Shaped, Spare}
use Rattle.trie_leaf.specs.inner.Planting.{Beside}
use Rattle.trie_leaf.specs.inner.Moving.{Unshifted, Put, Lowers, Lowered}
use Rattle.trie_leaf.specs.inner.Plucking.{Plucks, Plucked}
use Rattle.trie_pool.proofs.Shape.{within, first_is, count_is, mark_is}
use Rattle.trie_pool.proofs.Held.{root_mark}
use Rattle.trie_leaf.proofs.Halves.{zeros}

pub record Where (p : List ℕ) (m b j : ℕ) : Type 0 where
  pub behind : b < j
  pub upto : j ≤ m
  pub room : 8 * m + 4 ≤ length p
  pub some : 1 ≤ get_or p (8 * b + 2) 0

pub where_is : (p : List ℕ) (m b j : ℕ) → Plucks p m b j → Where p m b j
where_is p m b j h = record {
  behind = omega (arith, h.shaped.ahead b h.parent, h.from);
  upto = omega (arith, within p (suc m) h.shaped b h.parent, h.upto);
  room = omega (arith, h.fits);
  some = omega (arith, h.from, h.upto, count_is p b);
}

-- each first child is past the root
first_some : (p : List ℕ) (m i : ℕ) → Shaped p (suc m) → i < suc m → 1 ≤ get_or p (8 * i + 1) 0
first_some p m i s l = omega (arith, first_is p i, s.ahead i l)

pub lowers : (p p₁ p₂ : List ℕ) (m b j : ℕ) → Plucks p m b j → length p₂ ≡ length p → Unshifted p p₁ j m → Put p₁ p₂ (8 * m) 0 0 0 0 → Lowers p₂ (b + 1) m
lowers p p₁ p₂ m b j h long h₁ h₂ =
    record { fits = omega (arith, w.room); rising = omega (arith, w.behind, w.upto); some = λ i a c. each i a c (dec_lt i j) }
  where
    w : Where p m b j
    w = where_is p m b j h

    each : (i : ℕ) → b + 1 ≤ i → i < m → Dec (i < j) → 1 ≤ get_or p₂ (8 * i + 1) 0
    each i a c (yes l) = omega (arith, h₂.other (8 * i + 1) (λ r q e. omega arith), h₁.other (8 * i + 1) (λ i' r a' c' q e. omega arith), first_some p m i h.shaped (omega arith))
    each i a c (no l) = omega (arith, h₂.other (8 * i + 1) (λ r q e. omega arith), h₁.moved i 1 (omega arith) c (omega arith), first_some p m (suc i) h.shaped (omega arith))

module _ (p p₁ p₂ p₃ : List ℕ) (m b j : ℕ) (h : Plucks p m b j) (long : length p₃ ≡ length p)
    (h₁ : Unshifted p p₁ j m) (h₂ : Put p₁ p₂ (8 * m) 0 0 0 0) (h₃ : Lowered p₂ p₃ (b + 1) m) where
  abbrev end : List ℕ
  end = set (set p₃ (8 * b + 2) (get_or p₃ (8 * b + 2) 0 - 1)) 0 m

  w : Where p m b j
  w = where_is p m b j h

  top : (k : ℕ) → (k ≡ 0 → ⊥) → (k ≡ 8 * b + 2 → ⊥) → ((i : ℕ) → b + 1 ≤ i → i < m → k ≡ 8 * i + 1 → ⊥) → get_or end k 0 ≡ get_or p₂ k 0
  top k a c d =
      get_or-set_other (set p₃ (8 * b + 2) (get_or p₃ (8 * b + 2) 0 - 1)) 0 k m 0 a
      ∙ get_or-set_other p₃ (8 * b + 2) k (get_or p₃ (8 * b + 2) 0 - 1) 0 c
      ∙ h₃.other k d

  top_first : (i : ℕ) → b < i → i < m → get_or p₂ (8 * i + 1) 0 ≡ suc (get_or end (8 * i + 1) 0)
  top_first i a c =
      h₃.first i (omega arith) c
      ∙ ap suc (sym (get_or-set_other (set p₃ (8 * b + 2) (get_or p₃ (8 * b + 2) 0 - 1)) 0 (8 * i + 1) m 0 (omega arith)
      ∙ get_or-set_other p₃ (8 * b + 2) (8 * i + 1) (get_or p₃ (8 * b + 2) 0 - 1) 0 (omega arith)))

  below : (k : ℕ) → k < 8 * j → get_or p₂ k 0 ≡ get_or p k 0
  below k l = h₂.other k (λ r q e. omega (arith, w.upto)) ∙ h₁.other k (λ i r a c q e. omega arith)

  above : (i r : ℕ) → j ≤ i → i < m → r < 4 → get_or p₂ (8 * i + r) 0 ≡ get_or p (8 * suc i + r) 0
  above i r l u q = h₂.other (8 * i + r) (λ r' q' e. omega arith) ∙ h₁.moved i r l u q

  low : (k : ℕ) → k < 8 * j → (k ≡ 0 → ⊥) → (k ≡ 8 * b + 2 → ⊥) → ((i : ℕ) → b + 1 ≤ i → i < m → k ≡ 8 * i + 1 → ⊥) → get_or end k 0 ≡ get_or p k 0
  low k l a c d = top k a c d ∙ below k l

  -- cell r of a node that is moved, unless r is 1
  high : (i r k : ℕ) → k ≡ 8 * i + r → r < 4 → (r ≡ 1 → ⊥) → (z : ℕ) → z ≡ 8 * suc i + r → j ≤ i → i < m → get_or end k 0 ≡ get_or p z 0
  high i r k e rl ne z q l u =
      ap (λ (y : ℕ). get_or end y 0) e
      ∙ top (8 * i + r) (omega (arith, w.behind)) (omega (arith, w.behind)) (λ i' a c d. ne (omega arith))
      ∙ above i r l u rl ∙ sym (ap (λ (y : ℕ). get_or p y 0) q)

  spare : Spare end m
  spare = record {
    used = get_or-set_same (set p₃ (8 * b + 2) (get_or p₃ (8 * b + 2) 0 - 1)) 0 m 0 (simp length-set (omega (arith, w.room)));
    blank = λ i r l q. top (8 * i + r) (omega (arith, w.behind, w.upto)) (omega (arith, w.behind, w.upto)) (λ i' a c d. omega arith) ∙ tail i r l q (dec_lt m i);
  }
    where
      tail : (i r : ℕ) → m ≤ i → r < 4 → Dec (m < i) → get_or p₂ (8 * i + r) 0 ≡ 0
      tail i r l q (yes d) = h₂.other (8 * i + r) (λ r' q' e. omega arith) ∙ h₁.other (8 * i + r) (λ i' r' a c q' e. omega arith) ∙ h.spare.blank i r (omega arith) q
      tail i r l q (no d) = let e : i ≡ m = omega arith in ap (λ (z : ℕ). get_or p₂ (8 * z + r) 0) e ∙ zeros p₁ p₂ (8 * m) h₂ r q

  beside : Beside end p
  beside = record {
    root = sym (low 3 (omega (arith, w.behind)) (omega arith) (omega arith) (λ i' a c d. omega arith));
    aside = λ i r l q. sym (top (8 * i + r) (omega arith) (omega arith) (λ i' a c d. omega arith)
        ∙ h₂.other (8 * i + r) (λ r' q' e. omega arith) ∙ h₁.other (8 * i + r) (λ i' r' a c q' e. omega arith));
  }

  mark_low' : (i : ℕ) → i < j → Dec (0 < i) → mark_at p i ≡ mark_at end i
  mark_low' i l (yes a) = sym (mark_is end i a ∙ low (8 * i + 3) (omega arith) (omega arith) (omega arith) (λ i' a c d. omega arith) ∙ sym (mark_is p i a))
  mark_low' i l (no a) = let z : i ≡ 0 = omega arith in ap (mark_at p) z ∙ root_mark p ∙ sym (ap (mark_at end) z ∙ root_mark end)

  count_b : get_or p (8 * b + 2) 0 ≡ suc (get_or end (8 * b + 2) 0)
  count_b =
      let kept : get_or p₃ (8 * b + 2) 0 ≡ get_or p (8 * b + 2) 0 = h₃.other (8 * b + 2) (λ i' a c d. omega arith) ∙ below (8 * b + 2) (omega (arith, w.behind)) in
      let is : get_or end (8 * b + 2) 0 ≡ get_or p₃ (8 * b + 2) 0 - 1 =
      get_or-set_other (set p₃ (8 * b + 2) (get_or p₃ (8 * b + 2) 0 - 1)) 0 (8 * b + 2) m 0 (omega arith)
      ∙ get_or-set_same p₃ (8 * b + 2) (get_or p₃ (8 * b + 2) 0 - 1) 0 (omega (arith, w.room, w.behind, w.upto)) in
      omega (arith, w.some)

  pub plucked : Plucked p end m b j
  unfolding scalar_at first_at count_at
  plucked = record {
    planted = record {
      scalar_low = λ i a l. sym (low (8 * i) (omega arith) (omega arith) (omega arith) (λ i' a c d. omega arith));
      scalar_new = refl;
      scalar_high = λ i l u. sym (high i 0 (8 * i) (omega arith) (omega arith) (omega arith) (8 * suc i) (omega arith) l u);
      mark_low = λ i l. mark_low' i l (dec_lt 0 i);
      mark_new = h.unmarked;
      mark_high = λ i l u. mark_is p (suc i) (omega arith) ∙ sym (high i 3 (8 * i + 3) refl (omega arith) (omega arith) (8 * suc i + 3) refl l u) ∙ sym (mark_is end i (omega (arith, w.behind)));
      count_low = λ i l ne. sym (low (8 * i + 2) (omega arith) (omega arith) (λ e. ne (omega arith)) (λ i' a c d. omega arith));
      count_parent = count_b;
      count_new = h.leaf;
      count_high = λ i l u. sym (high i 2 (8 * i + 2) refl (omega arith) (omega arith) (8 * suc i + 2) refl l u);
      first_low = λ i l. sym (low (8 * i + 1) (omega (arith, w.behind)) (omega arith) (omega arith) (λ i' a c d. omega arith));
      first_mid = first_mid';
      first_new = first_new';
      first_high = λ i l u. sym (above i 1 l u (omega arith)) ∙ top_first i (omega (arith, w.behind)) u;
      spare = h.spare;
      beside = beside;
    };
    spare = spare;
  }
    where
      first_mid' : (i : ℕ) → b < i → i < j → get_or p (8 * i + 1) 0 ≡ suc (get_or end (8 * i + 1) 0)
      first_mid' i a c = sym (below (8 * i + 1) (omega arith)) ∙ top_first i a (omega (arith, w.upto))

      first_new' : (i : ℕ) → suc i ≡ j → get_or p (8 * j + 1) 0 ≡ suc (get_or end (8 * i + 1) 0 + get_or end (8 * i + 2) 0)
      first_new' i e = ap (λ (z : ℕ). get_or p (8 * z + 1) 0) (sym e) ∙ h.shaped.next i (omega (arith, w.upto)) ∙ go (dec_lt b i)
        where
          go : Dec (b < i) → get_or p (8 * i + 1) 0 + get_or p (8 * i + 2) 0 ≡ suc (get_or end (8 * i + 1) 0 + get_or end (8 * i + 2) 0)
          go (yes q) = omega (arith, first_mid' i q (omega arith), low (8 * i + 2) (omega arith) (omega arith) (omega arith) (λ i' a c d. omega arith))
          go (no q) =
              let z : i ≡ b = omega (arith, w.behind) in
              rw z (omega (arith, count_b, low (8 * b + 1) (omega (arith, w.behind)) (omega arith) (omega arith) (λ i' a c d. omega arith)))

  pub count_some : 1 ≤ get_or p₃ (8 * b + 2) 0
  count_some =
      let kept : get_or p₃ (8 * b + 2) 0 ≡ get_or p (8 * b + 2) 0 = h₃.other (8 * b + 2) (λ i' a c d. omega arith) ∙ below (8 * b + 2) (omega (arith, w.behind)) in
      omega (arith, w.some)
