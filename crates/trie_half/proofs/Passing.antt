-- The rules of a half as facts. Assumes nothing.
use mathlib.Core.Path.{◌≡◌, refl, sym}
use mathlib.Core.Bool.{Bool, true, false}
use mathlib.Core.List.{List}
use Prim.Native.Nat.{ℕ, ◌+◌, ◌*◌, ◌≤◌}
use lib.ListN.{length}
use Rattle.trie_pool.specs.Cells.{used}
use Rattle.trie_pool.specs.inner.Sound.{Sound}
use Rattle.trie_pool.specs.Rules.{in_half}
use Rattle.trie_pool.proofs.Rules.{sound_half, passes_half}
use Rattle.trie_plants.proofs.Parts.{used_in_half}

pub record Passing (most : ℕ) (p : List ℕ) : Type 0 where
  pub sound : Sound p (used p) 0
  pub room : used p ≤ most

-- what is found of the cells is what the rules say
pub refused : (most : ℕ) (p : List ℕ) → most ≤ 1048576 → 8 * most ≤ length p + 4 → (Passing most p → ⊥) → false ≡ in_half most p
refused most p small fit f = go (in_half most p) refl
  where
    go : (b : Bool) → in_half most p ≡ b → false ≡ b
    go false e = refl
    go true e = absurd (f (record { sound = sound_half most p e fit small; room = (used_in_half most p e).1 }))

pub accepted : (most : ℕ) (p : List ℕ) → Passing most p → true ≡ in_half most p
accepted most p h = sym (passes_half most p h.sound h.room)
