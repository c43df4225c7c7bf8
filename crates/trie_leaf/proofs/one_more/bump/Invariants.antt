use mathlib.Core.Path.{◌≡◌}
use mathlib.Core.List.{List}
use Prim.Native.Nat.{ℕ, suc, ◌+◌, ◌-◌, ◌*◌, ◌≤◌, ◌<◌}
use lib.ListN.{length, get_or}
use Rattle.trie_leaf.proofs.one_more.bump.Given as goal

pub record Inv (s₀ s : List ℕ) (low high i : ℕ) : Type 0 where
  pub from : low ≤ i
  pub upto : i ≤ high
  pub long : length s ≡ length s₀
  pub first : (k : ℕ) → low ≤ k → k < i → get_or s (8 * k + 1) 0 ≡ suc (get_or s₀ (8 * k + 1) 0)
  pub other : (a : ℕ) → ((k : ℕ) → low ≤ k → k < i → a ≡ 8 * k + 1 → ⊥) → get_or s a 0 ≡ get_or s₀ a 0

abbrev pub invariant-loop-i : goal.invariant-loop-i
invariant-loop-i l = Inv l.initial.p l.p l.low l.high l.i
