-- A scalar's bytes by its size, laid on a row. Assumes nothing.
use Prim.Native.Nat.{ℕ, ◌+◌, ◌/◌, ◌%◌, ◌≤◌, ◌<◌}
use native.Mathlib.Omega.{arith}
use native.Mathlib.Decide.{dec_lt}
use mathlib.Core.Path.{◌≡◌, refl, sym, ap, ◌∙◌}
use mathlib.Core.List.{List, [], ◌∷◌}
use lib.ListN.{length, set}
use Rattle.utf8_sequences.specs.Utf8.{bytes_of}
use Rattle.theorems_unicode.proofs.Encoding.{bytes_1, bytes_2, bytes_3, bytes_4}
use Rattle.image_bytes.specs.inner.Laying.{laid_at}
use Rattle.image_bytes.proofs.Laying.{laid_1, laid_2, laid_3, laid_4}

-- ---- sizes, v being the scalar x as a number

module _ (x v : ℕ) (is : v ≡ x) where
  pub size_1 : v < 0x80 → 1 ≡ length (bytes_of x)
  size_1 h = sym (ap length (sym (ap bytes_of is) ∙ bytes_1 v h))

  pub size_2 : 0x80 ≤ v → v < 0x800 → 2 ≡ length (bytes_of x)
  size_2 h k = sym (ap length (sym (ap bytes_of is) ∙ bytes_2 v h k))

  pub size_3 : 0x800 ≤ v → v < 0x10000 → 3 ≡ length (bytes_of x)
  size_3 h k = sym (ap length (sym (ap bytes_of is) ∙ bytes_3 v h k))

  pub size_4 : 0x10000 ≤ v → 4 ≡ length (bytes_of x)
  size_4 h = sym (ap length (sym (ap bytes_of is) ∙ bytes_4 v h))

  -- ---- stores

  module _ (row : List ℕ) (place : ℕ) (fits : place + length (bytes_of x) ≤ length row) where
    pub scalar_1 : v < 0x80 → (place + 1 ≡ place + length (bytes_of x)) × (set row place v ≡ laid_at place (bytes_of x) row)
    scalar_1 h =
        (ap (λ (k : ℕ). place + k) (size_1 h), laid_1 row place v (omega (arith, size_1 h)) ∙ ap (λ (l : List ℕ). laid_at place l row) (sym (bytes_1 v h) ∙ ap bytes_of is))

    pub scalar_2 : 0x80 ≤ v → v < 0x800
        → (place + 2 ≡ place + length (bytes_of x)) × (set (set row place (0xC0 + v / 64)) (place + 1) (0x80 + v % 64) ≡ laid_at place (bytes_of x) row)
    scalar_2 h k =
        (ap (λ (n : ℕ). place + n) (size_2 h k), laid_2 row place _ _ (omega (arith, size_2 h k)) ∙ ap (λ (l : List ℕ). laid_at place l row) (sym (bytes_2 v h k) ∙ ap bytes_of is))

    pub scalar_3 : 0x800 ≤ v → v < 0x10000
        → (place + 3 ≡ place + length (bytes_of x))
        × (set (set (set row place (0xE0 + v / 4096)) (place + 1) (0x80 + v / 64 % 64)) (place + 2) (0x80 + v % 64) ≡ laid_at place (bytes_of x) row)
    scalar_3 h k =
        (ap (λ (n : ℕ). place + n) (size_3 h k), laid_3 row place _ _ _ (omega (arith, size_3 h k)) ∙ ap (λ (l : List ℕ). laid_at place l row) (sym (bytes_3 v h k) ∙ ap bytes_of is))

    pub scalar_4 : 0x10000 ≤ v
        → (place + 4 ≡ place + length (bytes_of x))
        × (set (set (set (set row place (0xF0 + v / 262144)) (place + 1) (0x80 + v / 4096 % 64)) (place + 2) (0x80 + v / 64 % 64)) (place + 3) (0x80 + v % 64) ≡ laid_at place (bytes_of x) row)
    scalar_4 h =
        (ap (λ (n : ℕ). place + n) (size_4 h), laid_4 row place _ _ _ _ (omega (arith, size_4 h)) ∙ ap (λ (l : List ℕ). laid_at place l row) (sym (bytes_4 v h) ∙ ap bytes_of is))

-- a scalar takes four bytes at most
pub size_most : (x : ℕ) → length (bytes_of x) ≤ 4
size_most x = go (dec_lt x 0x80) (dec_lt x 0x800) (dec_lt x 0x10000)
  where
    go : Dec (x < 0x80) → Dec (x < 0x800) → Dec (x < 0x10000) → length (bytes_of x) ≤ 4
    go (yes a) b c = omega (arith, size_1 x x refl a)
    go (no a) (yes b) c = omega (arith, size_2 x x refl (omega arith) b)
    go (no a) (no b) (yes c) = omega (arith, size_3 x x refl (omega arith) c)
    go (no a) (no b) (no c) = omega (arith, size_4 x x refl (omega arith))
