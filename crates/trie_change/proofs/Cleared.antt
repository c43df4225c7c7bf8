-- What `reset` leaves: all cells are 0 but the root's two. Assumes nothing.
use Prim.Native.Nat.{ℕ, ◌≤◌, ◌<◌}
use native.Mathlib.Omega.{arith}
use native.Mathlib.Decide.{dec_lt}
use mathlib.Core.Path.{◌≡◌, ◌∙◌}
use lib.ListN.{get_or, set, replicate, length-set, length-replicate, get_or-eq_default}
use lib.Seq.{get_or-set_same, get_or-set_other}
use Rattle.std.proofs.lemmas.List.{get_or-replicate}
use Rattle.trie_change.specs.inner.Resetting.{RootAlone}

pub cleared : (n : ℕ) → 8 ≤ n → RootAlone (set (set (replicate {A = ℕ} n 0) 1 1) 0 1)
cleared n some = record {
  first = get_or-set_other (set (replicate {A = ℕ} n 0) 1 1) 0 1 1 0 (omega arith) ∙ get_or-set_same (replicate {A = ℕ} n 0) 1 1 0 (omega (arith, length-replicate {A = ℕ} n 0));
  used = get_or-set_same (set (replicate {A = ℕ} n 0) 1 1) 0 1 0 (omega (arith, length-set (replicate {A = ℕ} n 0) 1 1, length-replicate {A = ℕ} n 0));
  others = λ i a b. get_or-set_other (set (replicate {A = ℕ} n 0) 1 1) 0 i 1 0 b ∙ get_or-set_other (replicate {A = ℕ} n 0) 1 i 1 0 a ∙ go i (dec_lt i n);
}
  where
    go : (i : ℕ) → Dec (i < n) → get_or (replicate {A = ℕ} n 0) i 0 ≡ 0
    go i (yes q) = get_or-replicate n i 0 0 q
    go i (no q) = get_or-eq_default (replicate {A = ℕ} n 0) 0 {n = i} (omega (arith, length-replicate {A = ℕ} n 0))
