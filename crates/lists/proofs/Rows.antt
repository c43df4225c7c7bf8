-- A row that is filled from the left. Assumes nothing.
use Prim.Native.Nat.{ℕ, zero, suc, ◌+◌, ◌<◌}
use native.Mathlib.Omega.{arith}
use native.Mathlib.Numerals.{add-one}
use mathlib.Core.Path.{◌≡◌, refl, ap}
use mathlib.Core.List.{List, [], ◌∷◌, ◌++◌}
use lib.ListN.{length, get_or, set, take, drop}

store_suc : (src dst : List ℕ) (i : ℕ) → i < length src → i < length dst → set (take i src ++ drop i dst) i (get_or src i 0) ≡ take (suc i) src ++ drop (suc i) dst
store_suc [] dst i h k = absurd (omega arith)
store_suc (x ∷ xs) [] i h k = absurd (omega arith)
store_suc (x ∷ xs) (y ∷ ys) zero h k = refl
store_suc (x ∷ xs) (y ∷ ys) (suc i) h k = ap (λ (l : List ℕ). x ∷ l) (store_suc xs ys i (omega arith) (omega arith))

-- a store of the next element carries a copy of i elements to one of i + 1
pub store : (src dst : List ℕ) (i : ℕ) → i < length src → i < length dst → set (take i src ++ drop i dst) i (get_or src i 0) ≡ take (i + 1) src ++ drop (i + 1) dst
store src dst i h k = rw add-one (store_suc src dst i h k)
