-- A walk from node to node, step by step. Assumes nothing.
use mathlib.Core.Path.{◌≡◌, refl, sym, ap, ◌∙◌}
use mathlib.Core.Bool.{not, cond}
use mathlib.Core.List.{List, [], ◌∷◌}
use Prim.Native.Nat.{ℕ, zero, suc, ◌+◌, ◌-◌, ◌*◌, ◌≤◌, ◌<◌}
use native.Mathlib.Omega.{arith}
use native.Mathlib.Numerals.{add-one}
use lib.Dec.{eqb, eqb-suc-zero}
use lib.ListN.{length, get_or, drop, drop_of_length-le, length-drop}
use Rattle.trie_pool.specs.Meaning.{tally, amount}
use Rattle.trie_pool.specs.Cells.{used, mark_at}
use Rattle.trie_pool.specs.inner.Sound.{Readable}
use Rattle.trie_pool.specs.Words.{lacking, none, on_place, child, walk, marked, term, term_at}
use mathlib.Core.Option as option
use Rattle.trie_child.specs.inner.Search.{to_place}
use Rattle.std.specs.Prelude.{Option, Some, None}
use Rattle.trie_pool.proofs.Lists.{drop_next}
use Rattle.trie_pool.proofs.Shape.{within, child_found, mark_is}
use Rattle.trie_pool.proofs.Held.{root_mark}
use Rattle.trie_pool.proofs.Walks.{child_past}

pub record Inv (p w : List ℕ) (i t : ℕ) : Type 0 where
  pub upto : t ≤ length w
  pub here : Readable p i
  pub past_root : 0 < t → 0 < i
  pub same : walk p w 0 ≡ walk p (drop t w) i

module _ (p w : List ℕ) (i t : ℕ) (v : Inv p w i t) (l : t < length w) where
  on : walk p w 0 ≡ on_place none (λ r. walk p (drop (t + 1) w) r) (child p i (get_or w t 0))
  on = v.same ∙ ap (λ (u : List ℕ). walk p u i) (drop_next w t l)

  pub lost : (k : Option ℕ) → to_place k ≡ child p i (get_or w t 0) → k ≡ None → term 0 ≡ term_at p w
  lost k e q = sym (ap (on_place option.none (λ r. term (mark_at p r))) (on ∙ ap (on_place none (λ r. walk p (drop (t + 1) w) r)) (sym e ∙ ap to_place q)))

  pub step : (k : Option ℕ) (r : ℕ) → to_place k ≡ child p i (get_or w t 0) → k ≡ Some r → Inv p w r (t + 1)
  step k r e q =
      let f = child_found p i (get_or w t 0) r (sym e ∙ ap to_place q) in
      record {
        upto = omega arith;
        here = record { nodes = v.here.nodes; inside = omega (arith, within p v.here.nodes v.here.shaped i v.here.inside, f.high); shaped = v.here.shaped; fits = v.here.fits; rising = v.here.rising };
        past_root = λ q'. child_past p i (get_or w t 0) r (sym e ∙ ap to_place q) v.here;
        same = on ∙ ap (on_place none (λ r. walk p (drop (t + 1) w) r)) (sym e ∙ ap to_place q);
      }

pub is_marked : (m : ℕ) → not (eqb m 0) ≡ marked m
is_marked zero = refl
is_marked (suc m) = ap not (eqb-suc-zero m)

-- the mark as the code reads it
pub reads_mark : (p : List ℕ) (i : ℕ) → 0 < i → not (eqb (get_or p (8 * i + 3) 0) 0) ≡ marked (mark_at p i)
reads_mark p i l = is_marked (get_or p (8 * i + 3) 0) ∙ ap marked (sym (mark_is p i l))

pub begun : (p w : List ℕ) → Readable p 0 → Inv p w 0 0
begun p w g = record { upto = omega arith; here = g; past_root = λ l. absurd (omega arith); same = refl }

-- the empty word leads to the root
pub empty : (p w : List ℕ) → length w ≡ 0 → term 0 ≡ term_at p w
empty p [] e = sym (ap term (root_mark p))
empty p (x ∷ w) e = absurd (omega arith)

pub ended : (p w : List ℕ) (i t : ℕ) → Inv p w i t → (length w ≡ 0 → ⊥) → length w ≤ t → term (get_or p (8 * i + 3) 0) ≡ term_at p w
ended p w i t v some l = ap term (sym (mark_is p i (v.past_root (omega arith))))
    ∙ sym (ap (on_place option.none (λ r. term (mark_at p r))) (v.same ∙ ap (λ (u : List ℕ). walk p u i) (drop_of_length-le w l)))

-- ---- counting what lacks

pub record Counts (p w : List ℕ) (i t : ℕ) : Type 0 where
  pub upto : t ≤ length w
  pub here : Readable p i
  pub same : lacking p w 0 ≡ lacking p (drop t w) i

module _ (p w : List ℕ) (i t : ℕ) (v : Counts p w i t) (l : t < length w) where
  count_on : lacking p w 0 ≡ on_place (suc (length (drop (t + 1) w))) (λ r. lacking p (drop (t + 1) w) r) (child p i (get_or w t 0))
  count_on = v.same ∙ ap (λ (u : List ℕ). lacking p u i) (drop_next w t l)

  pub count_lost : (k : Option ℕ) → to_place k ≡ child p i (get_or w t 0) → k ≡ None → length w - t ≡ lacking p w 0
  count_lost k e q =
      let f : lacking p w 0 ≡ suc (length (drop (t + 1) w)) = count_on ∙ ap (on_place (suc (length (drop (t + 1) w))) (λ r. lacking p (drop (t + 1) w) r)) (sym e ∙ ap to_place q) in
      omega (arith, length-drop (t + 1) w)

  pub count_step : (k : Option ℕ) (r : ℕ) → to_place k ≡ child p i (get_or w t 0) → k ≡ Some r → Counts p w r (t + 1)
  count_step k r e q =
      let f = child_found p i (get_or w t 0) r (sym e ∙ ap to_place q) in
      record {
        upto = omega arith;
        here = record { nodes = v.here.nodes; inside = omega (arith, within p v.here.nodes v.here.shaped i v.here.inside, f.high); shaped = v.here.shaped; fits = v.here.fits; rising = v.here.rising };
        same = count_on ∙ ap (on_place (suc (length (drop (t + 1) w))) (λ r. lacking p (drop (t + 1) w) r)) (sym e ∙ ap to_place q);
      }

pub count_ended : (p w : List ℕ) (i t : ℕ) → Counts p w i t → length w ≤ t → 0 ≡ lacking p w 0
count_ended p w i t v l = sym (v.same ∙ ap (λ (u : List ℕ). lacking p u i) (drop_of_length-le w l))

-- ---- counting marks

pub record Tallied (p : List ℕ) (n words i : ℕ) : Type 0 where
  pub from : 1 ≤ i
  pub upto : i ≤ n
  pub few : words ≤ i
  pub is : words ≡ tally (λ j. marked (mark_at p j)) i

pub tallied_all : {p : List ℕ} {n words i : ℕ} → Tallied p n words i → n ≤ i → n ≡ used p → words ≡ amount p
tallied_all {p} {n} {words} {i} v l e = v.is ∙ ap (tally (λ j. marked (mark_at p j))) (let z : i ≡ n = omega (arith, v.upto) in z ∙ e)

-- no word ends at the root
pub tallied_root : (p : List ℕ) (n : ℕ) → 1 ≤ n → Tallied p n 0 1
unfolding mark_at
tallied_root p n l = record { from = omega arith; upto = l; few = omega arith; is = refl }

module _ {p : List ℕ} {n words i : ℕ} (v : Tallied p n words i) (l : i < n) where
  next_tally : (m : ℕ) → m ≡ get_or p (8 * i + 3) 0 → tally (λ j. marked (mark_at p j)) (i + 1) ≡ tally (λ j. marked (mark_at p j)) i + cond (marked m) 1 0
  next_tally m e = ap (tally (λ j. marked (mark_at p j))) (add-one i) ∙ ap (λ (k : ℕ). tally (λ j. marked (mark_at p j)) i + cond (marked k) 1 0) (mark_is p i v.from ∙ sym e)

  one : (m : ℕ) → (m ≡ 0 → ⊥) → ◌≡◌ {A = ℕ} (cond (marked m) 1 0) 1
  one zero ne = absurd (ne refl)
  one (suc m) ne = refl

  pub tallied_more : (get_or p (8 * i + 3) 0 ≡ 0 → ⊥) → Tallied p n (words + 1) (i + 1)
  tallied_more ne = record { from = omega arith; upto = omega arith; few = omega (arith, v.few); is = omega (arith, v.is, next_tally _ refl, one _ ne) }

  pub tallied_on : get_or p (8 * i + 3) 0 ≡ 0 → Tallied p n words (i + 1)
  tallied_on e = record { from = omega arith; upto = omega arith; few = omega (arith, v.few); is = omega (arith, v.is, next_tally 0 (sym e)) }
