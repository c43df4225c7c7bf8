-- The parts of a record, one behind the other, are the record. Assumes nothing.
use Prim.Native.Nat.{ℕ, ◌+◌, ◌≤◌}
use native.Mathlib.Omega.{arith}
use mathlib.Core.Path.{◌≡◌, refl, sym, ap, ◌∙◌}
use mathlib.Core.List.{List, [], ◌∷◌, ◌++◌, append_assoc}
use lib.ListN.{length, length-append}
use Rattle.image_rules.specs.Records.{le, record_of, last_record}
use Rattle.image_rules.proofs.Records.{le_long}
use Rattle.image_bytes.specs.inner.Laying.{laid_at}
use Rattle.image_bytes.proofs.Laying.{laid_then, laid_long}

-- three parts in a row
three : (row a b c : List ℕ) (place : ℕ) → place + (length a + (length b + length c)) ≤ length row
    → laid_at (place + (length a + length b)) c (laid_at (place + length a) b (laid_at place a row)) ≡ laid_at place (a ++ (b ++ c)) row
three row a b c place h =
    ap (laid_at (place + (length a + length b)) c) (laid_then row a b place (place + length a) refl (omega arith))
    ∙ laid_then row (a ++ b) c place (place + (length a + length b)) (omega (arith, length-append a b)) (omega arith)
    ∙ ap (λ (l : List ℕ). laid_at place l row) (append_assoc a b c)

module _ (row : List ℕ) (place : ℕ) where
  -- the header and the body
  pub put_parts : (kind size : ℕ) (body : List ℕ) → size ≡ 2 + length body → place + (6 + length body) ≤ length row
      → laid_at (place + 6) body (laid_at (place + 4) (le 2 kind) (laid_at place (le 4 size) row)) ≡ laid_at place (record_of kind body) row
  put_parts kind size body e h =
      let a : length (le 4 size) ≡ 4 = le_long 4 size in
      let b : length (le 2 kind) ≡ 2 = le_long 2 kind in
      let x : place + 4 ≡ place + length (le 4 size) = omega arith in
      let y : place + 6 ≡ place + (length (le 4 size) + length (le 2 kind)) = omega arith in
      ap (λ (k : ℕ). laid_at (place + 6) body (laid_at k (le 2 kind) (laid_at place (le 4 size) row))) x
      ∙ ap (λ (k : ℕ). laid_at k body (laid_at (place + length (le 4 size)) (le 2 kind) (laid_at place (le 4 size) row))) y
      ∙ three row (le 4 size) (le 2 kind) body place (omega arith)
      ∙ ap (λ (k : ℕ). laid_at place (le 4 k ++ (le 2 kind ++ body)) row) e

  pub put_word : (class n : ℕ) (word : List ℕ) → n ≡ length word → place + 8 + length word ≤ length row
      → laid_at (place + 8) word (laid_at (place + 6) (le 2 class) (laid_at (place + 4) (le 2 1) (laid_at place (le 4 (4 + n)) row))) ≡ laid_at place (record_of 1 (le 2 class ++ word)) row
  put_word class n word e h =
      let c : length (le 2 class) ≡ 2 = le_long 2 class in
      let s : length (le 2 class ++ word) ≡ 2 + length word = omega (arith, length-append (le 2 class) word) in
      let x : place + 8 ≡ place + 6 + length (le 2 class) = omega arith in
      let r : List ℕ = laid_at (place + 4) (le 2 1) (laid_at place (le 4 (4 + n)) row) in
      let long : length r ≡ length row =
      laid_long (laid_at place (le 4 (4 + n)) row) (le 2 1) (place + 4) (omega (arith, le_long 2 1, laid_long row (le 4 (4 + n)) place (omega (arith, le_long 4 (4 + n)))))
      ∙ laid_long row (le 4 (4 + n)) place (omega (arith, le_long 4 (4 + n))) in
      laid_then r (le 2 class) word (place + 6) (place + 8) x (omega arith)
      ∙ put_parts 1 (4 + n) (le 2 class ++ word) (omega arith) (omega arith)

  pub put_last : (n : ℕ) → place + 10 ≤ length row → laid_at (place + 6) (le 4 n) (laid_at (place + 4) (le 2 0) (laid_at place (le 4 6) row)) ≡ laid_at place (last_record n) row
  unfolding last_record
  put_last n h = put_parts 0 6 (le 4 n) (omega (arith, le_long 4 n)) (omega (arith, le_long 4 n))

  -- ---- the rows that the parts leave

  module _ {r1 r2 r3 : List ℕ} where
    pub word_put : {r4 : List ℕ} (class : ℕ) (word : List ℕ) → r1 ≡ laid_at place (le 4 (4 + length word)) row → r2 ≡ laid_at (place + 4) (le 2 1) r1 → r3 ≡ laid_at (place + 6) (le 2 class) r2 → r4 ≡ laid_at (place + 8) word r3
        → place + 8 + length word ≤ length row → r4 ≡ laid_at place (record_of 1 (le 2 class ++ word)) row
    word_put class word a b c d h =
        d ∙ ap (laid_at (place + 8) word) (c ∙ ap (laid_at (place + 6) (le 2 class)) (b ∙ ap (laid_at (place + 4) (le 2 1)) a)) ∙ put_word class (length word) word refl h

    pub last_put : (n : ℕ) → r1 ≡ laid_at place (le 4 6) row → r2 ≡ laid_at (place + 4) (le 2 0) r1 → r3 ≡ laid_at (place + 6) (le 4 n) r2
        → place + 10 ≤ length row → r3 ≡ laid_at place (last_record n) row
    last_put n a b c h = c ∙ ap (laid_at (place + 6) (le 4 n)) (b ∙ ap (laid_at (place + 4) (le 2 0)) a) ∙ put_last n h
