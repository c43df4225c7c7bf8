-- The ends of the clusters, one after the other. Assumes nothing.
use Prim.Native.Nat.{ℕ, zero, suc, ◌+◌, ◌≤◌, ◌<◌}
use native.Mathlib.Omega.{arith}
use mathlib.Core.Path.{◌≡◌, refl, sym, ◌∙◌, ap}
use mathlib.Core.Bool.{Bool, true, false}
use mathlib.Core.List.{List, [], ◌∷◌}
use lib.ListN.{length}
use lib.Dec.{ltb}
use borrow.Author.Tests.{ltb-true, ltb-false, lt-ltb, le-ltb}
use Rattle.tcc_rules.specs.Clusters.{cluster_end, ends_from, cluster_ends}
use Rattle.tcc_rules.proofs.Bounds.{cluster}

over : (most : ℕ) (text : List ℕ) (p : ℕ) → length text ≤ p → ends_from most text p ≡ []
unfolding ends_from
over zero text p h = refl
over (suc most) text p h = rw (le-ltb p (length text) h)

one_more : (most : ℕ) (text : List ℕ) (p : ℕ) → p < length text → ends_from (suc most) text p ≡ cluster_end text p ∷ ends_from most text (cluster_end text p)
unfolding ends_from
one_more most text p h = rw (lt-ltb p (length text) h)

-- as many as there are characters left is enough
enough : (f g : ℕ) (text : List ℕ) (p : ℕ) → length text ≤ p + f → length text ≤ p + g → ends_from f text p ≡ ends_from g text p
enough zero g text p hf hg = over zero text p (omega arith) ∙ sym (over g text p (omega arith))
enough (suc f) zero text p hf hg = over (suc f) text p (omega arith) ∙ sym (over zero text p (omega arith))
enough (suc f) (suc g) text p hf hg = go (ltb p (length text)) refl (λ q i j. enough f g text q i j)
  where
    go : (t : Bool) → ltb p (length text) ≡ t → ((q : ℕ) → length text ≤ q + f → length text ≤ q + g → ends_from f text q ≡ ends_from g text q) → ends_from (suc f) text p ≡ ends_from (suc g) text p
    go true t ih =
        let i = ltb-true p (length text) t in
        let e = cluster text p i in
        one_more f text p i ∙ ap (λ (l : List ℕ). cluster_end text p ∷ l) (ih (cluster_end text p) (omega (arith, e.past)) (omega (arith, e.past))) ∙ sym (one_more g text p i)
    go false t ih = over (suc f) text p (ltb-false p (length text) t) ∙ sym (over (suc g) text p (ltb-false p (length text) t))

-- the ends behind p, where a cluster starts or the text ends
unfoldable pub rest : List ℕ → ℕ → List ℕ
rest text p = ends_from (length text) text p

pub rest_all : (text : List ℕ) → cluster_ends text ≡ rest text 0
unfolding cluster_ends rest
rest_all text = refl

pub rest_next : (text : List ℕ) (p : ℕ) → p < length text → rest text p ≡ cluster_end text p ∷ rest text (cluster_end text p)
unfolding rest
rest_next text p h = enough (length text) (suc (length text)) text p (omega arith) (omega arith) ∙ one_more (length text) text p h

pub rest_over : (text : List ℕ) (p : ℕ) → length text ≤ p → rest text p ≡ []
unfolding rest
rest_over text p h = over (length text) text p h

-- what holds at the end of the text, and at the start of a cluster if at its end, holds at every
-- start
module _ (P : ℕ → Type 0) (text : List ℕ) (last : P (length text)) (step : (p : ℕ) → p < length text → P (cluster_end text p) → P p) where
  back : (f p : ℕ) → p ≤ length text → length text ≤ p + f → P p
  back zero p h i = let e : p ≡ length text = omega arith in rw e last
  back (suc f) p h i = go (ltb p (length text)) refl (λ q j k. back f q j k)
    where
      go : (t : Bool) → ltb p (length text) ≡ t → ((q : ℕ) → q ≤ length text → length text ≤ q + f → P q) → P p
      go true t ih =
          let j = ltb-true p (length text) t in
          let e = cluster text p j in
          step p j (ih (cluster_end text p) e.inside (omega (arith, e.past)))
      go false t ih = let j = ltb-false p (length text) t in let e : p ≡ length text = omega arith in rw e last

  pub from_start : P 0
  from_start = back (length text) 0 (omega arith) (omega arith)

  pub from_place : (p : ℕ) → p ≤ length text → P p
  from_place p h = back (length text) p h (omega arith)
