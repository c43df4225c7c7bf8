-- The cells of the half in the nodes from n on, or-ed. Assumes nothing.
use mathlib.Core.Path.{◌≡◌, refl, ap, ◌∙◌}
use mathlib.Core.List.{List}
use Prim.Native.Nat.{ℕ, ◌+◌, ◌*◌, ◌≤◌, ◌<◌}
use native.Mathlib.Omega.{arith}
use native.Mathlib.Decide.{dec_lt}
use lib.Bits.{bit_or}
use lib.Dec.{eqb}
use lib.ListN.{length, get_or, get_or-eq_default}
use Rattle.trie_node.specs.inner.Checks.{Decides}
use Rattle.trie_nodes.proofs.Ors.{or_left, or_right, or_both, none_of}

-- four numbers that are 0 exactly if the cells of the nodes from n to i are
pub record Unused (p : List ℕ) (n i a b c d : ℕ) : Type 0 where
  pub low : n ≤ i
  pub none : (a ≡ 0) × (b ≡ 0) × (c ≡ 0) × (d ≡ 0) → (j r : ℕ) → n ≤ j → j < i → r < 4 → get_or p (8 * j + r) 0 ≡ 0
  pub all : ((j r : ℕ) → n ≤ j → r < 4 → get_or p (8 * j + r) 0 ≡ 0) → (a ≡ 0) × (b ≡ 0) × (c ≡ 0) × (d ≡ 0)

pub unused_none : (p : List ℕ) (n : ℕ) → Unused p n n 0 0 0 0
unused_none p n = record { low = omega arith; none = λ e j r l h q. absurd (omega arith); all = λ f. (refl, refl, refl, refl) }

-- one of four cells
four : (p : List ℕ) (k r : ℕ) → r < 4 → get_or p k 0 ≡ 0 → get_or p (k + 1) 0 ≡ 0 → get_or p (k + 2) 0 ≡ 0 → get_or p (k + 3) 0 ≡ 0 → get_or p (k + r) 0 ≡ 0
four p k r l w x y z = pick (dec_lt r 1) (dec_lt r 2) (dec_lt r 3)
  where
    pick : Dec (r < 1) → Dec (r < 2) → Dec (r < 3) → get_or p (k + r) 0 ≡ 0
    pick (yes s) t u = let e : k + r ≡ k = omega arith in ap (λ (q : ℕ). get_or p q 0) e ∙ w
    pick (no s) (yes t) u = let e : k + r ≡ k + 1 = omega arith in ap (λ (q : ℕ). get_or p q 0) e ∙ x
    pick (no s) (no t) (yes u) = let e : k + r ≡ k + 2 = omega arith in ap (λ (q : ℕ). get_or p q 0) e ∙ y
    pick (no s) (no t) (no u) = let e : k + r ≡ k + 3 = omega arith in ap (λ (q : ℕ). get_or p q 0) e ∙ z

pub unused_more : (p : List ℕ) (n i a b c d : ℕ) → Unused p n i a b c d
    → Unused p n (i + 1) (bit_or a (get_or p (8 * i) 0)) (bit_or b (get_or p (8 * i + 1) 0)) (bit_or c (get_or p (8 * i + 2) 0)) (bit_or d (get_or p (8 * i + 3) 0))
unused_more p n i a b c d v = record {
  low = omega (arith, v.low);
  none = λ e j r l h q. pick e j r l h q (dec_lt j i);
  all = λ f.
      let q = v.all f in
      let z : 8 * i ≡ 8 * i + 0 = omega arith in
      (or_both a _ q.0 (ap (λ (k : ℕ). get_or p k 0) z ∙ f i 0 v.low (omega arith)), or_both b _ q.1 (f i 1 v.low (omega arith)), or_both c _ q.2 (f i 2 v.low (omega arith)), or_both d _ q.3 (f i 3 v.low (omega arith)));
}
  where
    pick : (bit_or a (get_or p (8 * i) 0) ≡ 0) × (bit_or b (get_or p (8 * i + 1) 0) ≡ 0) × (bit_or c (get_or p (8 * i + 2) 0) ≡ 0) × (bit_or d (get_or p (8 * i + 3) 0) ≡ 0)
        → (j r : ℕ) → n ≤ j → j < i + 1 → r < 4 → Dec (j < i) → get_or p (8 * j + r) 0 ≡ 0
    pick e j r l h q (yes y) = v.none (or_left a _ e.0, or_left b _ e.1, or_left c _ e.2, or_left d _ e.3) j r l y q
    pick e j r l h q (no y) =
        let z : 8 * j + r ≡ 8 * i + r = omega arith in
        ap (λ (k : ℕ). get_or p k 0) z ∙ four p (8 * i) r q (or_right a _ e.0) (or_right b _ e.1) (or_right c _ e.2) (or_right d _ e.3)

pub unused_done : {p : List ℕ} {n i a b c d : ℕ} → Unused p n i a b c d → length p ≤ 8 * i
    → Decides (eqb (bit_or (bit_or (bit_or a b) c) d) 0) ((j r : ℕ) → n ≤ j → r < 4 → get_or p (8 * j + r) 0 ≡ 0)
unused_done {p} {n} {i} {a} {b} {c} {d} v h =
    let g = none_of a b c d in
    record {
      yes' = λ e j r l q. pick (g.yes' e) j r l q (dec_lt j i);
      no' = λ e f. g.no' e (v.all f);
    }
  where
    pick : (a ≡ 0) × (b ≡ 0) × (c ≡ 0) × (d ≡ 0) → (j r : ℕ) → n ≤ j → r < 4 → Dec (j < i) → get_or p (8 * j + r) 0 ≡ 0
    pick e j r l q (yes y) = v.none e j r l y q
    pick e j r l q (no y) = get_or-eq_default p 0 {n = 8 * j + r} (omega arith)
