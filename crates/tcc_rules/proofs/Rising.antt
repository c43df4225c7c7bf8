-- 01: the ends are rising, the last equal to n; none for empty text. Assumes nothing.
use Prim.Native.Nat.{ℕ, ◌+◌, ◌≤◌, ◌<◌}
use native.Mathlib.Omega.{arith}
use mathlib.Core.Path.{◌≡◌, refl, ◌∙◌, ap}
use mathlib.Core.List.{List, [], ◌∷◌}
use lib.ListN.{length}
use Rattle.tcc_rules.specs.Clusters.{ends_from, cluster_ends}
use Rattle.tcc_rules.specs.Rising.{Rise, last_of, AtMost}
use Rattle.tcc_rules.proofs.Bounds.{cluster}
use Rattle.tcc_rules.proofs.Ends.{rest, rest_all, rest_next, rest_over, from_start, from_place}

pub rest_rises : (text : List ℕ) (p : ℕ) → p ≤ length text → Rise p (rest text p)
rest_rises text p h =
    from_place (λ (q : ℕ). Rise q (rest text q)) text (rw (rest_over text (length text) (omega arith)) tt)
    (λ q i r. rw (rest_next text q i) ((cluster text q i).past, r)) p h

pub rises : (text : List ℕ) → Rise 0 (cluster_ends text)
rises text = rw (rest_all text) (rest_rises text 0 (omega arith))

pub last_is : (text : List ℕ) → last_of 0 (cluster_ends text) ≡ length text
last_is text =
    rw (rest_all text)
    (from_start (λ (q : ℕ). last_of q (rest text q) ≡ length text) text (ap (last_of (length text)) (rest_over text (length text) (omega arith)))
    (λ q i r. ap (last_of q) (rest_next text q i) ∙ r))

pub none_for_empty : cluster_ends [] ≡ []
unfolding cluster_ends ends_from
none_for_empty = refl

pub at_most : (text : List ℕ) → AtMost (length text) (cluster_ends text)
at_most text =
    rw (rest_all text)
    (from_start (λ (q : ℕ). AtMost (length text) (rest text q)) text (rw (rest_over text (length text) (omega arith)) tt)
    (λ q i r. rw (rest_next text q i) ((cluster text q i).inside, r)))

-- each cluster has a character or more, so there are no more ends than characters
pub few : (text : List ℕ) → length (cluster_ends text) ≤ length text
few text =
    let h : 0 + length (rest text 0) ≤ length text =
    from_start (λ (q : ℕ). q + length (rest text q) ≤ length text) text (omega (arith, ap length (rest_over text (length text) (omega arith))))
    (λ q i r. omega (arith, ap length (rest_next text q i), (cluster text q i).past))
    in
    rw (rest_all text) (omega arith)
