-- How many bytes numbers and records take. Assumes nothing.
use Prim.Native.Nat.{ℕ, zero, suc, ◌+◌, ◌/◌}
use native.Mathlib.Omega.{arith}
use mathlib.Core.Path.{◌≡◌, refl, ap, ◌∙◌}
use mathlib.Core.List.{List, ◌++◌}
use lib.ListN.{length, length-append}
use Rattle.image_rules.specs.Records.{le, record_of}

pub le_long : (k v : ℕ) → length (le k v) ≡ k
unfolding le
le_long zero v = refl
le_long (suc k) v = ap suc (le_long k (v / 256))

pub record_long : (kind : ℕ) (body : List ℕ) → length (record_of kind body) ≡ 6 + length body
record_long kind body =
    length-append (le 4 (2 + length body)) (le 2 kind ++ body)
    ∙ omega (arith, le_long 4 (2 + length body), length-append (le 2 kind) body, le_long 2 kind)
