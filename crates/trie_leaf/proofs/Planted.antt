-- What the steps of `plant` come to, cell by cell. Assumes nothing.
use mathlib.Core.Path.{◌≡◌, refl, sym, ap, ◌∙◌}
use mathlib.Core.List.{List}
use Prim.Native.Nat.{ℕ, suc, ◌+◌, ◌-◌, ◌*◌, ◌≤◌, ◌<◌}
use native.Mathlib.Omega.{arith}
use native.Mathlib.Decide.{dec_lt}
use lib.ListN.{length, get_or, set, length-set}
use lib.Seq.{get_or-set_same, get_or-set_other}
use Rattle.trie_pool.specs.Cells.{scalar_at, first_at, count_at, mark_at}
use Rattle.trie_pool.specs.inner.Sound.{Spare}
use Rattle.trie_leaf.specs.inner.Planting.{Plants, Planted, Beside}
use Rattle.trie_leaf.specs.inner.Moving.{Shifted, Put, Bumps, Bumped}
use Rattle.trie_pool.proofs.Shape.{within, first_is, count_is, mark_is}
use Rattle.trie_pool.proofs.Held.{root_mark}

-- where the new leaf stands
pub record Where (p : List ℕ) (n b j : ℕ) : Type 0 where
  pub behind : b < j
  pub upto : j ≤ n
  pub room : 8 * n + 4 ≤ length p
  pub sum : get_or p (8 * j - 7) 0 + get_or p (8 * j - 6) 0 ≤ n
  pub is : (i : ℕ) → suc i ≡ j → get_or p (8 * j - 7) 0 + get_or p (8 * j - 6) 0 ≡ first_at p i + count_at p i

pub where_is : (p : List ℕ) (n b j x : ℕ) → Plants p n b j x → Where p n b j
where_is p n b j x h =
    let b_ok = h.room.parent in
    let l : b < j = omega (arith, h.shaped.ahead b b_ok, h.room.from) in
    let u : j ≤ n = omega (arith, within p n h.shaped b b_ok, h.room.upto) in
    record {
      behind = l;
      upto = u;
      room = omega (arith, h.fits);
      sum = omega (arith, at (j - 1) (omega arith), within p n h.shaped (j - 1) (omega arith));
      is = at;
    }
  where
    at : (i : ℕ) → suc i ≡ j → get_or p (8 * j - 7) 0 + get_or p (8 * j - 6) 0 ≡ first_at p i + count_at p i
    at i e =
        let u : 8 * j - 7 ≡ 8 * i + 1 = omega arith in
        let v : 8 * j - 6 ≡ 8 * i + 2 = omega arith in
        let a : get_or p (8 * j - 7) 0 ≡ first_at p i = ap (λ (k : ℕ). get_or p k 0) u ∙ sym (first_is p i) in
        let c : get_or p (8 * j - 6) 0 ≡ count_at p i = ap (λ (k : ℕ). get_or p k 0) v ∙ sym (count_is p i) in
        omega arith

module _ (p p₁ p₂ p₃ : List ℕ) (n b j x f : ℕ) (h : Plants p n b j x) (long : length p₃ ≡ length p)
    (h₁ : Shifted p p₁ j n) (h₂ : Put p₁ p₂ (8 * j) x f 0 0) (h₃ : Bumped p₂ p₃ (b + 1) (n + 1)) (f_is : f ≡ get_or p (8 * j - 7) 0 + get_or p (8 * j - 6) 0) where
  abbrev end : List ℕ
  end = set (set p₃ (8 * b + 2) (get_or p₃ (8 * b + 2) 0 + 1)) 0 (n + 1)

  w : Where p n b j
  w = where_is p n b j x h

  -- a cell that none of the last steps writes
  top : (k : ℕ) → (k ≡ 0 → ⊥) → (k ≡ 8 * b + 2 → ⊥) → ((i : ℕ) → b + 1 ≤ i → i < n + 1 → k ≡ 8 * i + 1 → ⊥) → get_or end k 0 ≡ get_or p₂ k 0
  top k a c d =
      get_or-set_other (set p₃ (8 * b + 2) (get_or p₃ (8 * b + 2) 0 + 1)) 0 k (n + 1) 0 a
      ∙ get_or-set_other p₃ (8 * b + 2) k (get_or p₃ (8 * b + 2) 0 + 1) 0 c
      ∙ h₃.other k d

  top_first : (i : ℕ) → b < i → i ≤ n → get_or end (8 * i + 1) 0 ≡ suc (get_or p₂ (8 * i + 1) 0)
  top_first i a c =
      get_or-set_other (set p₃ (8 * b + 2) (get_or p₃ (8 * b + 2) 0 + 1)) 0 (8 * i + 1) (n + 1) 0 (omega arith)
      ∙ get_or-set_other p₃ (8 * b + 2) (8 * i + 1) (get_or p₃ (8 * b + 2) 0 + 1) 0 (omega arith)
      ∙ h₃.first i (omega arith) (omega arith)

  below : (k : ℕ) → k < 8 * j → get_or p₂ k 0 ≡ get_or p k 0
  below k l = h₂.other k (λ r q e. omega arith) ∙ h₁.other k (λ i r a c q e. omega arith)

  above : (i r : ℕ) → j ≤ i → i < n → r < 4 → get_or p₂ (8 * suc i + r) 0 ≡ get_or p (8 * i + r) 0
  above i r l u q = h₂.other (8 * suc i + r) (λ r' q' e. omega arith) ∙ h₁.moved i r l u q

  low : (k : ℕ) → k < 8 * j → (k ≡ 0 → ⊥) → (k ≡ 8 * b + 2 → ⊥) → ((i : ℕ) → b + 1 ≤ i → i < n + 1 → k ≡ 8 * i + 1 → ⊥) → get_or end k 0 ≡ get_or p k 0
  low k l a c d = top k a c d ∙ below k l

  -- cell r of a node that is moved, unless r is 1
  high : (i r k : ℕ) → k ≡ 8 * i + r → r < 4 → (r ≡ 1 → ⊥) → (m : ℕ) → m ≡ 8 * suc i + r → j ≤ i → i < n → get_or end m 0 ≡ get_or p k 0
  high i r k e rl ne m q l u =
      ap (λ (z : ℕ). get_or end z 0) q
      ∙ top (8 * suc i + r) (omega (arith, w.behind)) (omega (arith, w.behind)) (λ i' a c d. ne (omega arith))
      ∙ above i r l u rl ∙ sym (ap (λ (z : ℕ). get_or p z 0) e)

  spare : Spare end (suc n)
  spare = record {
    used = get_or-set_same (set p₃ (8 * b + 2) (get_or p₃ (8 * b + 2) 0 + 1)) 0 (n + 1) 0 (simp length-set (omega (arith, w.room))) ∙ plus;
    blank = λ i r l q. top (8 * i + r) (omega arith) (omega (arith, w.behind, w.upto)) (λ i' a c d. omega arith)
        ∙ h₂.other (8 * i + r) (λ r' q' e. omega (arith, w.upto)) ∙ h₁.other (8 * i + r) (λ i' r' a c q' e. omega arith) ∙ h.spare.blank i r (omega arith) q;
  }
    where
      plus : n + 1 ≡ suc n
      plus = omega arith

  beside : Beside p end
  beside = record {
    root = low 3 (omega (arith, w.behind)) (omega arith) (omega arith) (λ i' a c d. omega arith);
    aside = λ i r l q. top (8 * i + r) (omega arith) (omega arith) (λ i' a c d. omega arith)
        ∙ h₂.other (8 * i + r) (λ r' q' e. omega arith) ∙ h₁.other (8 * i + r) (λ i' r' a c q' e. omega arith);
  }

  mark_low' : (i : ℕ) → i < j → Dec (0 < i) → mark_at end i ≡ mark_at p i
  mark_low' i l (yes a) = mark_is end i a ∙ low (8 * i + 3) (omega arith) (omega arith) (omega arith) (λ i' a c d. omega arith) ∙ sym (mark_is p i a)
  mark_low' i l (no a) = let z : i ≡ 0 = omega arith in ap (mark_at end) z ∙ root_mark end ∙ sym (ap (mark_at p) z ∙ root_mark p)

  pub planted : Planted p end n b j x
  unfolding scalar_at first_at count_at
  planted = record {
    scalar_low = λ i a l. low (8 * i) (omega arith) (omega arith) (omega arith) (λ i' a c d. omega arith);
    scalar_new = top (8 * j) (omega (arith, w.behind)) (omega arith) (λ i' a c d. omega arith) ∙ h₂.scalar_is;
    scalar_high = λ i l u. high i 0 (8 * i) (omega arith) (omega arith) (omega arith) (8 * suc i) (omega arith) l u;
    mark_low = λ i l. mark_low' i l (dec_lt 0 i);
    mark_new = mark_is end j (omega (arith, w.behind)) ∙ top (8 * j + 3) (omega arith) (omega arith) (λ i' a c d. omega arith) ∙ h₂.mark_is;
    mark_high = λ i l u. mark_is end (suc i) (omega arith) ∙ high i 3 (8 * i + 3) refl (omega arith) (omega arith) (8 * suc i + 3) refl l u ∙ sym (mark_is p i (omega (arith, w.behind)));
    count_low = λ i l ne. low (8 * i + 2) (omega arith) (omega arith) (λ e. ne (omega arith)) (λ i' a c d. omega arith);
    count_parent = parent;
    count_new = top (8 * j + 2) (omega arith) (omega (arith, w.behind)) (λ i' a c d. omega arith) ∙ h₂.count_is;
    count_high = λ i l u. high i 2 (8 * i + 2) refl (omega arith) (omega arith) (8 * suc i + 2) refl l u;
    first_low = λ i l. low (8 * i + 1) (omega (arith, w.behind)) (omega arith) (omega arith) (λ i' a c d. omega arith);
    first_mid = λ i a c. top_first i a (omega (arith, w.upto)) ∙ ap suc (below (8 * i + 1) (omega arith));
    first_new = λ i e. top_first j w.behind w.upto ∙ ap suc (h₂.first_is ∙ f_is ∙ w.is i e);
    first_high = λ i l u. top_first (suc i) (omega (arith, w.behind)) (omega arith) ∙ ap suc (above i 1 l u (omega arith));
    spare = spare;
    beside = beside;
  }
    where
      parent : get_or end (8 * b + 2) 0 ≡ suc (get_or p (8 * b + 2) 0)
      parent =
          get_or-set_other (set p₃ (8 * b + 2) (get_or p₃ (8 * b + 2) 0 + 1)) 0 (8 * b + 2) (n + 1) 0 (omega arith)
          ∙ get_or-set_same p₃ (8 * b + 2) (get_or p₃ (8 * b + 2) 0 + 1) 0 (omega (arith, w.room, w.behind, w.upto))
          ∙ count
        where
          kept : get_or p₃ (8 * b + 2) 0 ≡ get_or p (8 * b + 2) 0
          kept = h₃.other (8 * b + 2) (λ i' a c d. omega arith) ∙ below (8 * b + 2) (omega (arith, w.behind))

          count : get_or p₃ (8 * b + 2) 0 + 1 ≡ suc (get_or p (8 * b + 2) 0)
          count = omega (arith, kept)

  -- the parent's count is small
  pub count_small : get_or p₃ (8 * b + 2) 0 ≤ 1048576
  count_small =
      let kept : get_or p₃ (8 * b + 2) 0 ≡ get_or p (8 * b + 2) 0 = h₃.other (8 * b + 2) (λ i' a c d. omega arith) ∙ below (8 * b + 2) (omega (arith, w.behind)) in
      omega (arith, count_is p b, within p n h.shaped b h.room.parent, h.small)

pub bumps : (p p₁ p₂ : List ℕ) (n b j x f : ℕ) → Plants p n b j x → length p₂ ≡ length p → Shifted p p₁ j n → Put p₁ p₂ (8 * j) x f 0 0
    → f ≡ get_or p (8 * j - 7) 0 + get_or p (8 * j - 6) 0 → Bumps p₂ (b + 1) (n + 1)
bumps p p₁ p₂ n b j x f h long h₁ h₂ f_is =
    record { fits = omega (arith, w.room); rising = omega (arith, w.behind, w.upto); small = λ i a c. each i a c (dec_lt i j) (dec_lt j i) }
  where
    w : Where p n b j
    w = where_is p n b j x h

    old : (i : ℕ) → i < n → get_or p (8 * i + 1) 0 ≤ 1048576
    old i l = omega (arith, first_is p i, within p n h.shaped i l, h.small)

    each : (i : ℕ) → b + 1 ≤ i → i < n + 1 → Dec (i < j) → Dec (j < i) → get_or p₂ (8 * i + 1) 0 ≤ 1048576
    each i a c (yes l) d = omega (arith, h₂.other (8 * i + 1) (λ r q e. omega arith), h₁.other (8 * i + 1) (λ i' r a' c' q e. omega arith), old i (omega (arith, w.upto)))
    each i a c (no l) (yes m) =
        let at : 8 * i + 1 ≡ 8 * suc (i - 1) + 1 = omega arith in
        let e : get_or p₂ (8 * i + 1) 0 ≡ get_or p (8 * (i - 1) + 1) 0 = h₂.other (8 * i + 1) (λ r q e. omega arith) ∙ ap (λ (z : ℕ). get_or p₁ z 0) at ∙ h₁.moved (i - 1) 1 (omega arith) (omega arith) (omega arith) in
        omega (arith, old (i - 1) (omega arith))
    each i a c (no l) (no m) =
        let z : i ≡ j = omega arith in
        let e : get_or p₂ (8 * i + 1) 0 ≡ f = ap (λ (k : ℕ). get_or p₂ (8 * k + 1) 0) z ∙ h₂.first_is in
        omega (arith, w.sum, h.small)
