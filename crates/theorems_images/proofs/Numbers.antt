-- Numbers in bytes, little-endian, and back. Assumes nothing.
use Prim.Native.Nat.{ℕ, zero, suc, ◌+◌, ◌*◌, ◌/◌, ◌%◌, ◌≤◌, ◌<◌}
use native.Mathlib.Omega.{arith}
use mathlib.Core.Path.{◌≡◌, refl, sym, ap, ◌∙◌}
use mathlib.Core.List.{List, [], ◌∷◌, ◌++◌}
use lib.ListN.{length, get_or}
use Rattle.image_rules.specs.Records.{le, value, Bytes}

-- ---- a number and back

value_1 : (v : ℕ) → v < 256 → value (le 1 v) ≡ v
unfolding le value
value_1 v h = omega arith

more : (k v w : ℕ) → value (le k (v / 256)) ≡ v / 256 → value (le (suc k) v) ≡ v
unfolding le value
more k v w e = omega (arith, e)

pub value_2 : (v : ℕ) → v < 65536 → value (le 2 v) ≡ v
value_2 v h = more 1 v 0 (value_1 (v / 256) (omega arith))

pub value_4 : (v : ℕ) → v < 4294967296 → value (le 4 v) ≡ v
value_4 v h = more 3 v 0 (more 2 (v / 256) 0 (value_2 (v / 256 / 256) (omega arith)))

-- ---- bytes and back

pub bytes_tail : (b : ℕ) (s : List ℕ) → Bytes (b ∷ s) → Bytes s
bytes_tail b s h i l = h (suc i) (omega arith)

pub le_value : (s : List ℕ) → Bytes s → le (length s) (value s) ≡ s
unfolding le value
le_value [] h = refl
le_value (b ∷ s) h =
    let f : b < 256 = h 0 (omega arith) in
    let x : (b + 256 * value s) % 256 ≡ b = omega arith in
    let y : (b + 256 * value s) / 256 ≡ value s = omega arith in
    let z = le_value s (bytes_tail b s h) in
    λ i. x i ∷ (ap (le (length s)) y ∙ z) i

-- k bytes are a number below 256 to the k
value_below_1 : (s : List ℕ) → Bytes s → length s ≤ 1 → value s < 256
unfolding value
value_below_1 [] h l = omega arith
value_below_1 (b ∷ []) h l = let f = h 0 (omega arith) in omega arith
value_below_1 (b ∷ c ∷ s) h l = absurd (omega arith)

below_more : (m k : ℕ) → ((s : List ℕ) → Bytes s → length s ≤ k → value s < m) → (s : List ℕ) → 0 < m → Bytes s → length s ≤ suc k → value s < 256 * m
unfolding value
below_more m k f [] p h l = omega arith
below_more m k f (b ∷ s) p h l = let g = h 0 (omega arith) in let e = f s (bytes_tail b s h) (omega arith) in omega arith

pub value_below_2 : (s : List ℕ) → Bytes s → length s ≤ 2 → value s < 65536
value_below_2 s h l = below_more 256 1 value_below_1 s (omega arith) h l

pub value_below_4 : (s : List ℕ) → Bytes s → length s ≤ 4 → value s < 4294967296
value_below_4 s h l = below_more 16777216 3 (λ r g k. below_more 65536 2 value_below_2 r (omega arith) g k) s (omega arith) h l
