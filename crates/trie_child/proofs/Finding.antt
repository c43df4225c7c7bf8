-- What a search among the children of a node finds. Assumes nothing.
use mathlib.Core.Path.{◌≡◌, refl, sym, ap, subst, ◌∙◌}
use mathlib.Core.Bool.{Bool, cond}
use mathlib.Core.List.{List}
use Prim.Native.Nat.{ℕ, zero, suc, ◌+◌, ◌*◌, ◌≤◌, ◌<◌}
use native.Mathlib.Omega.{arith}
use native.Mathlib.Decide.{dec_lt}
use borrow.Author.Tests.{lt-ltb, le-ltb, ne_eqb}
use lib.Dec.{eqb}
use lib.ListN.{get_or}
use Rattle.trie_pool.specs.Cells.{scalar_at, first_at, count_at}
use Rattle.trie_pool.specs.inner.Sound.{Readable}
use Rattle.trie_pool.specs.Words.{none, at, scan, child}
use Rattle.trie_pool.proofs.Shape.{scan_new, first_is, count_is}
use Rattle.trie_child.specs.inner.Search.{Sought}
use Rattle.trie_child.proofs.Nearing.{no_child}

pub scan_stop : (p : List ℕ) (j x n s : ℕ) → s ≤ j → ((k : ℕ) → s ≤ k → k < j → scalar_at p k < x) → (j < s + n → x < scalar_at p j) → scan p x s n ≡ none
scan_stop p j x zero s le low high = refl
scan_stop p j x (suc n) s le low high = go (dec_lt s j) (scan_stop p j x n (suc s))
  where
    go : Dec (s < j) → (suc s ≤ j → ((k : ℕ) → suc s ≤ k → k < j → scalar_at p k < x) → (j < suc s + n → x < scalar_at p j) → scan p x (suc s) n ≡ none) → scan p x s (suc n) ≡ none
    go (yes l) ih =
        ap (λ (t : Bool). cond t (scan p x (suc s) n) (cond (eqb (scalar_at p s) x) (at s) none)) (lt-ltb (scalar_at p s) x (low s (omega arith) l))
        ∙ ih l (λ k u v. low k (omega arith) v) (λ v. high (omega arith))
    go (no l) ih =
        let e : j ≡ s = omega arith in
        let big : x < scalar_at p s = subst (λ (z : ℕ). x < scalar_at p z) e (high (omega arith)) in
        ap (λ (t : Bool). cond t (scan p x (suc s) n) (cond (eqb (scalar_at p s) x) (at s) none)) (le-ltb (scalar_at p s) x (omega arith))
        ∙ ap (λ (t : Bool). cond t (at s) none) (ne_eqb (scalar_at p s) x (λ z. omega arith))

module _ (p : List ℕ) (b x r : ℕ) (h : Sought p b x r) where
  pub past : first_at p b + count_at p b ≤ r → child p b x ≡ none
  unfolding child
  past l = scan_stop p r x (count_at p b) (first_at p b) h.from h.below (λ q. absurd (omega arith))

  pub other : r < first_at p b + count_at p b → (scalar_at p r ≡ x → ⊥) → child p b x ≡ none
  unfolding child
  other l ne = scan_stop p r x (count_at p b) (first_at p b) h.from h.below (λ q. omega (arith, h.stop l))

  pub found : r < first_at p b + count_at p b → scalar_at p r ≡ x → child p b x ≡ at r
  unfolding child
  found l e = scan_new p r x (count_at p b) (first_at p b) h.from l h.below e

-- the same from the two cells that tell a node's children
module _ (p : List ℕ) (b x f n : ℕ) (g : Readable p b) (u : f ≡ get_or p (8 * b + 1) 0) (v : n ≡ get_or p (8 * b + 2) 0) where
  first_here : f ≡ first_at p b
  first_here = omega (arith, first_is p b)

  count_here : n ≡ count_at p b
  count_here = omega (arith, count_is p b)

  pub no_children : n ≡ 0 → child p b x ≡ none
  no_children z = past p b x f (no_child p b x f n g u v z) (omega (arith, first_here, count_here))

  module _ (one : n ≡ 1) where
    low : x ≤ scalar_at p f → Sought p b x f
    low l = record { from = omega (arith, first_here); upto = omega (arith, first_here, count_here); below = λ i a c. absurd (omega (arith, first_here)); stop = λ a. l }

    high : scalar_at p f < x → Sought p b x (f + 1)
    high l =
        record {
          from = omega (arith, first_here);
          upto = omega (arith, first_here, count_here);
          below = λ i a c. let e : i ≡ f = omega (arith, first_here) in subst (λ (k : ℕ). scalar_at p k < x) (sym e) l;
          stop = λ a. absurd (omega (arith, first_here, count_here));
        }

    pub only_child : get_or p (8 * f) 0 ≡ x → child p b x ≡ at f
    unfolding scalar_at
    only_child e = found p b x f (low (omega arith)) (omega (arith, first_here, count_here)) e

    pub only_other : (get_or p (8 * f) 0 ≡ x → ⊥) → child p b x ≡ none
    unfolding scalar_at
    only_other ne = go (dec_lt (scalar_at p f) x)
      where
        go : Dec (scalar_at p f < x) → child p b x ≡ none
        go (yes l) = past p b x (f + 1) (high l) (omega (arith, first_here, count_here))
        go (no l) = other p b x f (low (omega arith)) (omega (arith, first_here, count_here)) ne
