-- The numbers of two and of four bytes. Assumes nothing.
use mathlib.Core.Path.{◌≡◌, sym, ap, ◌∙◌}
use mathlib.Core.List.{List, [], ◌∷◌}
use Prim.Native.Nat.{ℕ, ◌+◌, ◌*◌, ◌≤◌}
use native.Mathlib.Omega.{arith}
use lib.ListN.{length, get_or, take, drop}
use Rattle.trie_pool.proofs.Lists.{drop_next}
use Rattle.image_rules.specs.Records.{value}

pair : (s : List ℕ) (at : ℕ) → at + 2 ≤ length s → take 2 (drop at s) ≡ get_or s at 0 ∷ get_or s (at + 1) 0 ∷ []
pair s at h =
    ap (take 2) (drop_next s at (omega arith)) ∙ ap (λ (l : List ℕ). get_or s at 0 ∷ take 1 l) (drop_next s (at + 1) (omega arith))

pub two_is : (s : List ℕ) (at a b : ℕ) → at + 2 ≤ length s → a ≡ get_or s at 0 → b ≡ get_or s (at + 1) 0 → a + 256 * b ≡ value (take 2 (drop at s))
unfolding value
two_is s at a b h e f =
    let z : a + 256 * b ≡ get_or s at 0 + 256 * (get_or s (at + 1) 0 + 256 * 0) = omega arith in
    z ∙ ap value (sym (pair s at h))

-- two and two
halves : (w x y z : ℕ) → value (w ∷ x ∷ y ∷ z ∷ []) ≡ value (w ∷ x ∷ []) + 65536 * value (y ∷ z ∷ [])
unfolding value
halves w x y z = omega arith

pub four_is : (s : List ℕ) (at a b : ℕ) → at + 4 ≤ length s → a ≡ value (take 2 (drop at s)) → b ≡ value (take 2 (drop (at + 2) s)) → a + 65536 * b ≡ value (take 4 (drop at s))
four_is s at a b h e f =
    let z : a + 65536 * b ≡ value (take 2 (drop at s)) + 65536 * value (take 2 (drop (at + 2) s)) = omega arith in
    let q : take 4 (drop at s) ≡ get_or s at 0 ∷ get_or s (at + 1) 0 ∷ take 2 (drop (at + 1 + 1) s)
    = ap (take 4) (drop_next s at (omega arith)) ∙ ap (λ (l : List ℕ). get_or s at 0 ∷ take 3 l) (drop_next s (at + 1) (omega arith)) in
    let n : at + 1 + 1 ≡ at + 2 = omega arith in
    let p : take 2 (drop (at + 1 + 1) s) ≡ get_or s (at + 2) 0 ∷ get_or s (at + 2 + 1) 0 ∷ [] = ap (λ (k : ℕ). take 2 (drop k s)) n ∙ pair s (at + 2) (omega arith) in
    z
    ∙ ap (λ (l : List ℕ). value l + 65536 * value (take 2 (drop (at + 2) s))) (pair s at (omega arith))
    ∙ ap (λ (l : List ℕ). value (get_or s at 0 ∷ get_or s (at + 1) 0 ∷ []) + 65536 * value l) (pair s (at + 2) (omega arith))
    ∙ sym (halves (get_or s at 0) (get_or s (at + 1) 0) (get_or s (at + 2) 0) (get_or s (at + 2 + 1) 0))
    ∙ ap value (sym (q ∙ ap (λ (l : List ℕ). get_or s at 0 ∷ get_or s (at + 1) 0 ∷ l) p))
