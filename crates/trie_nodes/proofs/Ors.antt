-- Cells that are or-ed are all 0 exactly if the result is. Assumes nothing.
use mathlib.Core.Path.{◌≡◌, refl, sym, ap, ap₂, subst, ◌∙◌}
use mathlib.Core.List.{List}
use Prim.Native.Nat.{ℕ, ◌+◌, ◌*◌, ◌≤◌, ◌<◌}
use native.Mathlib.Omega.{arith}
use native.Mathlib.Decide.{dec_lt}
use lib.Bits.{bit_or, bit_and, or_add_and, and_le_l, and_le_r}
use lib.Dec.{eqb}
use lib.ListN.{get_or}
use borrow.Author.Tests.{eqb-true, eqb-false}
use Rattle.trie_node.specs.inner.Checks.{Decides}
use Rattle.trie_nodes.specs.inner.Walking.{Aside, Beside}

pub or_left : (a b : ℕ) → bit_or a b ≡ 0 → a ≡ 0
or_left a b e = omega (arith, or_add_and a b, and_le_r a b, e)

pub or_right : (a b : ℕ) → bit_or a b ≡ 0 → b ≡ 0
or_right a b e = omega (arith, or_add_and a b, and_le_l a b, e)

pub or_both : (a b : ℕ) → a ≡ 0 → b ≡ 0 → bit_or a b ≡ 0
or_both a b e f = ap₂ bit_or e f

-- ---- the second half of a node

-- from its four cells
pub aside_join : (p : List ℕ) (i : ℕ) → get_or p (8 * i + 4) 0 ≡ 0 → get_or p (8 * i + 4 + 1) 0 ≡ 0 → get_or p (8 * i + 4 + 2) 0 ≡ 0 → get_or p (8 * i + 4 + 3) 0 ≡ 0 → Aside p i
aside_join p i w x y z = record { zeros = λ r l h. pick r l h (dec_lt r 5) (dec_lt r 6) (dec_lt r 7) }
  where
    pick : (r : ℕ) → 4 ≤ r → r < 8 → Dec (r < 5) → Dec (r < 6) → Dec (r < 7) → get_or p (8 * i + r) 0 ≡ 0
    pick r l h (yes s) t u = let e : 8 * i + r ≡ 8 * i + 4 = omega arith in ap (λ (k : ℕ). get_or p k 0) e ∙ w
    pick r l h (no s) (yes t) u = let e : 8 * i + r ≡ 8 * i + 4 + 1 = omega arith in ap (λ (k : ℕ). get_or p k 0) e ∙ x
    pick r l h (no s) (no t) (yes u) = let e : 8 * i + r ≡ 8 * i + 4 + 2 = omega arith in ap (λ (k : ℕ). get_or p k 0) e ∙ y
    pick r l h (no s) (no t) (no u) = let e : 8 * i + r ≡ 8 * i + 4 + 3 = omega arith in ap (λ (k : ℕ). get_or p k 0) e ∙ z

-- one of its cells, as the code counts them
pub aside_cell : (p : List ℕ) (i r k : ℕ) → Aside p i → r < 4 → k ≡ 8 * i + (4 + r) → get_or p k 0 ≡ 0
aside_cell p i r k h l e = ap (λ (z : ℕ). get_or p z 0) e ∙ h.zeros (4 + r) (omega arith) (omega arith)

-- ---- the second halves of the nodes before i

pub beside_none : (p : List ℕ) → Aside p 0 → Beside p 1 0 0 0 0
beside_none p h = record {
  none = λ w x y z j l. let e : j ≡ 0 = omega arith in subst (Aside p) (sym e) h;
  all = λ f. (refl, refl, refl, refl);
}

pub beside_more : (p : List ℕ) (i a b c d : ℕ) → Beside p i a b c d
    → Beside p (i + 1) (bit_or a (get_or p (8 * i + 4) 0)) (bit_or b (get_or p (8 * i + 4 + 1) 0)) (bit_or c (get_or p (8 * i + 4 + 2) 0)) (bit_or d (get_or p (8 * i + 4 + 3) 0))
beside_more p i a b c d v = record {
  none = λ w x y z j l. pick w x y z j l (dec_lt j i);
  all = λ f.
      let q = v.all (λ j l. f j (omega arith)) in
      let g = f i (omega arith) in
      (or_both _ _ q.0 (aside_cell p i 0 _ g (omega arith) (omega arith)), or_both _ _ q.1 (aside_cell p i 1 _ g (omega arith) (omega arith)), or_both _ _ q.2 (aside_cell p i 2 _ g (omega arith) (omega arith)), or_both _ _ q.3 (aside_cell p i 3 _ g (omega arith) (omega arith)));
}
  where
    pick : bit_or a (get_or p (8 * i + 4) 0) ≡ 0 → bit_or b (get_or p (8 * i + 4 + 1) 0) ≡ 0 → bit_or c (get_or p (8 * i + 4 + 2) 0) ≡ 0 → bit_or d (get_or p (8 * i + 4 + 3) 0) ≡ 0
        → (j : ℕ) → j < i + 1 → Dec (j < i) → Aside p j
    pick w x y z j l (yes q) = v.none (or_left a _ w) (or_left b _ x) (or_left c _ y) (or_left d _ z) j q
    pick w x y z j l (no q) = let e : j ≡ i = omega arith in subst (Aside p) (sym e) (aside_join p i (or_right a _ w) (or_right b _ x) (or_right c _ y) (or_right d _ z))

-- ---- four at once

pub none_of : (a b c d : ℕ) → Decides (eqb (bit_or (bit_or (bit_or a b) c) d) 0) ((a ≡ 0) × (b ≡ 0) × (c ≡ 0) × (d ≡ 0))
none_of a b c d = record {
  yes' = λ y.
      let z = eqb-true (bit_or (bit_or (bit_or a b) c) d) 0 y in
      let x = or_left (bit_or (bit_or a b) c) d z in
      let w = or_left (bit_or a b) c x in
      (or_left a b w, or_right a b w, or_right (bit_or a b) c x, or_right (bit_or (bit_or a b) c) d z);
  no' = λ y h. eqb-false (bit_or (bit_or (bit_or a b) c) d) 0 y (or_both (bit_or (bit_or a b) c) d (or_both (bit_or a b) c (or_both a b h.0 h.1) h.2) h.3);
}

-- the root: its start, and its second half
pub root_both : (p : List ℕ) (P : Type 0) → P → get_or p 1 0 ≡ 1
    → Decides (eqb (bit_or (bit_or (bit_or (get_or p 4 0) (get_or p 5 0)) (get_or p 6 0)) (get_or p 7 0)) 0) ((get_or p 1 0 ≡ 1) × (P → Aside p 0))
root_both p P h root =
    let d = none_of (get_or p 4 0) (get_or p 5 0) (get_or p 6 0) (get_or p 7 0) in
    record {
      yes' = λ y. let q = d.yes' y in (root, λ z. aside_join p 0 q.0 q.1 q.2 q.3);
      no' = λ y q.
          let a = q.1 h in
          d.no' y (a.zeros 4 (omega arith) (omega arith), a.zeros 5 (omega arith) (omega arith), a.zeros 6 (omega arith) (omega arith), a.zeros 7 (omega arith) (omega arith));
    }
