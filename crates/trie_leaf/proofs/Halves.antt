-- The halves of nodes, written and moved one by one. Assumes nothing.
use mathlib.Core.Path.{◌≡◌, refl, sym, ap, ◌∙◌}
use mathlib.Core.List.{List}
use Prim.Native.Nat.{ℕ, suc, ◌+◌, ◌-◌, ◌*◌, ◌≤◌, ◌<◌}
use native.Mathlib.Omega.{arith}
use native.Mathlib.Decide.{dec_lt}
use lib.ListN.{length, get_or, set, length-set}
use lib.Seq.{get_or-set_same, get_or-set_other}
use Rattle.trie_leaf.specs.inner.Moving.{Put, Copied, Shifted, Unshifted}

-- four cells that are those of another place
four_cells : (s t : List ℕ) (a b : ℕ) → get_or s a 0 ≡ get_or t b 0 → get_or s (a + 1) 0 ≡ get_or t (b + 1) 0 → get_or s (a + 2) 0 ≡ get_or t (b + 2) 0 → get_or s (a + 3) 0 ≡ get_or t (b + 3) 0
    → (r : ℕ) → r < 4 → get_or s (a + r) 0 ≡ get_or t (b + r) 0
four_cells s t a b w x y z r l = go (dec_lt r 1) (dec_lt r 2) (dec_lt r 3)
  where
    at_r : (k : ℕ) → r ≡ k → get_or s (a + k) 0 ≡ get_or t (b + k) 0 → get_or s (a + r) 0 ≡ get_or t (b + r) 0
    at_r k e h = ap (λ (j : ℕ). get_or s (a + j) 0) e ∙ h ∙ sym (ap (λ (j : ℕ). get_or t (b + j) 0) e)

    go : Dec (r < 1) → Dec (r < 2) → Dec (r < 3) → get_or s (a + r) 0 ≡ get_or t (b + r) 0
    go (yes p) q u =
        let e : a + r ≡ a = omega arith in
        let f : b + r ≡ b = omega arith in
        ap (λ (j : ℕ). get_or s j 0) e ∙ w ∙ sym (ap (λ (j : ℕ). get_or t j 0) f)
    go (no p) (yes q) u = at_r 1 (omega arith) x
    go (no p) (no q) (yes u) = at_r 2 (omega arith) y
    go (no p) (no q) (no u) = at_r 3 (omega arith) z

-- ---- one half

abbrev four : List ℕ → ℕ → ℕ → ℕ → ℕ → ℕ → List ℕ
four s a x f k m = set (set (set (set s a x) (a + 1) f) (a + 2) k) (a + 3) m

pub put : (s : List ℕ) (a x f k m : ℕ) → a + 4 ≤ length s → Put s (four s a x f k m) a x f k m
put s a x f k m fit = record {
  scalar_is = get_or-set_other (set (set (set s a x) (a + 1) f) (a + 2) k) (a + 3) a m 0 (omega arith) ∙ get_or-set_other (set (set s a x) (a + 1) f) (a + 2) a k 0 (omega arith)
      ∙ get_or-set_other (set s a x) (a + 1) a f 0 (omega arith) ∙ get_or-set_same s a x 0 (omega arith);
  first_is = get_or-set_other (set (set (set s a x) (a + 1) f) (a + 2) k) (a + 3) (a + 1) m 0 (omega arith) ∙ get_or-set_other (set (set s a x) (a + 1) f) (a + 2) (a + 1) k 0 (omega arith)
      ∙ get_or-set_same (set s a x) (a + 1) f 0 (simp length-set (omega arith));
  count_is = get_or-set_other (set (set (set s a x) (a + 1) f) (a + 2) k) (a + 3) (a + 2) m 0 (omega arith) ∙ get_or-set_same (set (set s a x) (a + 1) f) (a + 2) k 0 (simp length-set (omega arith));
  mark_is = get_or-set_same (set (set (set s a x) (a + 1) f) (a + 2) k) (a + 3) m 0 (simp length-set (omega arith));
  other = λ i ne. get_or-set_other (set (set (set s a x) (a + 1) f) (a + 2) k) (a + 3) i m 0 (ne 3 (omega arith)) ∙ get_or-set_other (set (set s a x) (a + 1) f) (a + 2) i k 0 (ne 2 (omega arith))
      ∙ get_or-set_other (set s a x) (a + 1) i f 0 (ne 1 (omega arith)) ∙ get_or-set_other s a i x 0 (λ e. ne 0 (omega arith) (omega arith));
}

pub copied : (s t : List ℕ) (a b x f k m : ℕ) → x ≡ get_or s a 0 → f ≡ get_or s (a + 1) 0 → k ≡ get_or s (a + 2) 0 → m ≡ get_or s (a + 3) 0 → Put s t b x f k m → Copied s t a b
copied s t a b x f k m p q u v h = record { moved = four_cells t s b a (h.scalar_is ∙ p) (h.first_is ∙ q) (h.count_is ∙ u) (h.mark_is ∙ v); other = h.other }

-- a half of zeros
pub zeros : (s t : List ℕ) (a : ℕ) → Put s t a 0 0 0 0 → (r : ℕ) → r < 4 → get_or t (a + r) 0 ≡ 0
zeros s t a h r l = go (dec_lt r 1) (dec_lt r 2) (dec_lt r 3)
  where
    at_r : (k : ℕ) → r ≡ k → get_or t (a + k) 0 ≡ 0 → get_or t (a + r) 0 ≡ 0
    at_r k e z = ap (λ (j : ℕ). get_or t (a + j) 0) e ∙ z

    go : Dec (r < 1) → Dec (r < 2) → Dec (r < 3) → get_or t (a + r) 0 ≡ 0
    go (yes p) q u = let e : a + r ≡ a = omega arith in ap (λ (j : ℕ). get_or t j 0) e ∙ h.scalar_is
    go (no p) (yes q) u = at_r 1 (omega arith) h.first_is
    go (no p) (no q) (yes u) = at_r 2 (omega arith) h.count_is
    go (no p) (no q) (no u) = at_r 3 (omega arith) h.mark_is

-- ---- one node on, from the last to the first

pub record Shifting (s₀ s : List ℕ) (low high k : ℕ) : Type 0 where
  pub from : low ≤ k
  pub upto : k ≤ high
  pub long : length s ≡ length s₀
  pub moved : (i r : ℕ) → k ≤ i → i < high → r < 4 → get_or s (8 * suc i + r) 0 ≡ get_or s₀ (8 * i + r) 0
  pub other : (z : ℕ) → ((i r : ℕ) → k ≤ i → i < high → r < 4 → z ≡ 8 * suc i + r → ⊥) → get_or s z 0 ≡ get_or s₀ z 0

pub shift_none : (s : List ℕ) (low high : ℕ) → low ≤ high → Shifting s s low high high
shift_none s low high l = record { from = l; upto = omega arith; long = refl; moved = λ i r a c d. absurd (omega arith); other = λ z ne. refl }

pub shift_turn : (s₀ s t : List ℕ) (low high k : ℕ) → Shifting s₀ s low high k → low < k → length t ≡ length s → Copied s t (8 * (k - 1)) (8 * (k - 1) + 8) → Shifting s₀ t low high (k - 1)
shift_turn s₀ s t low high k v l kept h = record {
  from = omega arith;
  upto = omega (arith, v.upto);
  long = kept ∙ v.long;
  moved = λ i r a c d. moved i r a c d (dec_lt i k);
  other = λ z ne. h.other z (λ r d e. ne (k - 1) r (omega arith) (omega (arith, v.upto)) d (omega arith)) ∙ v.other z (λ i r a c d e. ne i r (omega arith) c d e);
}
  where
    moved : (i r : ℕ) → k - 1 ≤ i → i < high → r < 4 → Dec (i < k) → get_or t (8 * suc i + r) 0 ≡ get_or s₀ (8 * i + r) 0
    moved i r a c d (yes q) =
        let e : i ≡ k - 1 = omega arith in
        let f : 8 * suc i + r ≡ 8 * (k - 1) + 8 + r = omega arith in
        ap (λ (j : ℕ). get_or t j 0) f ∙ h.moved r d ∙ v.other (8 * (k - 1) + r) (λ i' r' a' c' d' e'. omega arith) ∙ sym (ap (λ (j : ℕ). get_or s₀ (8 * j + r) 0) e)
    moved i r a c d (no q) = h.other (8 * suc i + r) (λ r' d' e'. omega arith) ∙ v.moved i r (omega arith) c d

pub shift_done : (s₀ s : List ℕ) (low high k : ℕ) → Shifting s₀ s low high k → k ≤ low → Shifted s₀ s low high
shift_done s₀ s low high k v l = record {
  moved = λ i r a c d. v.moved i r (omega arith) c d;
  other = λ z ne. v.other z (λ i r a c d e. ne i r (omega (arith, v.from)) c d e);
}

-- ---- one node back, from the first to the last

pub record Unshifting (s₀ s : List ℕ) (low high k : ℕ) : Type 0 where
  pub from : low ≤ k
  pub upto : k ≤ high
  pub long : length s ≡ length s₀
  pub moved : (i r : ℕ) → low ≤ i → i < k → r < 4 → get_or s (8 * i + r) 0 ≡ get_or s₀ (8 * suc i + r) 0
  pub other : (z : ℕ) → ((i r : ℕ) → low ≤ i → i < k → r < 4 → z ≡ 8 * i + r → ⊥) → get_or s z 0 ≡ get_or s₀ z 0

pub unshift_none : (s : List ℕ) (low high : ℕ) → low ≤ high → Unshifting s s low high low
unshift_none s low high l = record { from = omega arith; upto = l; long = refl; moved = λ i r a c d. absurd (omega arith); other = λ z ne. refl }

pub unshift_turn : (s₀ s t : List ℕ) (low high k : ℕ) → Unshifting s₀ s low high k → k < high → length t ≡ length s → Copied s t (8 * k + 8) (8 * k) → Unshifting s₀ t low high (k + 1)
unshift_turn s₀ s t low high k v l kept h = record {
  from = omega (arith, v.from);
  upto = omega arith;
  long = kept ∙ v.long;
  moved = λ i r a c d. moved i r a c d (dec_lt i k);
  other = λ z ne. h.other z (λ r d e. ne k r v.from (omega arith) d e) ∙ v.other z (λ i r a c d e. ne i r a (omega arith) d e);
}
  where
    moved : (i r : ℕ) → low ≤ i → i < k + 1 → r < 4 → Dec (i < k) → get_or t (8 * i + r) 0 ≡ get_or s₀ (8 * suc i + r) 0
    moved i r a c d (yes q) = h.other (8 * i + r) (λ r' d' e'. omega arith) ∙ v.moved i r a q d
    moved i r a c d (no q) =
        let e : i ≡ k = omega arith in
        let f : 8 * k + 8 + r ≡ 8 * suc i + r = omega arith in
        ap (λ (j : ℕ). get_or t (8 * j + r) 0) e ∙ h.moved r d ∙ v.other (8 * k + 8 + r) (λ i' r' a' c' d' e'. omega arith) ∙ ap (λ (j : ℕ). get_or s₀ j 0) f

pub unshift_done : (s₀ s : List ℕ) (low high k : ℕ) → Unshifting s₀ s low high k → high ≤ k → Unshifted s₀ s low high
unshift_done s₀ s low high k v l = record {
  moved = λ i r a c d. v.moved i r a (omega arith) d;
  other = λ z ne. v.other z (λ i r a c d e. ne i r a (omega (arith, v.upto)) d e);
}
