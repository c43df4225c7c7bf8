-- Whether a number lies in a range. Assumes nothing.
use Prim.Native.Nat.{ℕ, ◌≤◌, ◌<◌}
use native.Mathlib.Omega.{arith}
use native.Mathlib.Decide.{dec_lt}
use mathlib.Core.Path.{◌≡◌}
use mathlib.Core.Bool.{true, false, and-false}
use borrow.Author.Tests.{le-leb, lt-leb}
use Rattle.lists.specs.Scans.{within}

pub within_yes : (lo hi x : ℕ) → lo ≤ x → x ≤ hi → within lo hi x ≡ true
within_yes lo hi x l h = simp (le-leb lo x l, le-leb x hi h)

pub within_no : (lo hi x : ℕ) → (lo ≤ x → x ≤ hi → ⊥) → within lo hi x ≡ false
within_no lo hi x f = pick (dec_lt x lo) (dec_lt hi x)
  where
    pick : Dec (x < lo) → Dec (hi < x) → within lo hi x ≡ false
    pick (yes l) d = simp (lt-leb lo x l)
    pick (no l) (yes h) = simp (lt-leb x hi h, and-false)
    pick (no l) (no h) = absurd (f (omega arith) (omega arith))
