-- A test's two answers, as `Decides`. Assumes nothing.
use mathlib.Core.Path.{◌≡◌}
use mathlib.Core.Bool.{Bool, true, false}
use Prim.Native.Nat.{ℕ}
use native.Mathlib.Omega.{arith}
use Rattle.trie_node.specs.inner.Checks.{Decides}

pub denied : {P : Type 0} → (P → ⊥) → Decides false P
denied f = record { yes' = λ e. let z : ◌≡◌ {A = ℕ} 0 1 = cc in absurd (omega arith); no' = λ e p. f p }

pub granted : {P : Type 0} → P → Decides true P
granted p = record { yes' = λ e. p; no' = λ e q. let z : ◌≡◌ {A = ℕ} 0 1 = cc in omega arith }

pub clash : {P : Type 0} → false ≡ true → P
clash e = let z : ◌≡◌ {A = ℕ} 0 1 = cc in absurd (omega arith)
