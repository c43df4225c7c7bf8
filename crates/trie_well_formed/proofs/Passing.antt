-- The rules as facts. Assumes nothing.
use mathlib.Core.Path.{◌≡◌, refl, sym}
use mathlib.Core.List.{List}
use mathlib.Core.Bool.{Bool, true, false}
use Prim.Native.Nat.{ℕ, ◌≤◌}
use Rattle.trie_pool.specs.Cells.{used}
use Rattle.trie_pool.specs.inner.Sound.{Plain, Sound}
use Rattle.trie_pool.specs.Rules.{capacity, well_formed}
use Rattle.trie_pool.proofs.Rules.{sound, plain_is, in_capacity, passes}

pub record Passing (p : List ℕ) : Type 0 where
  pub sound : Sound p (used p) 0
  pub plain : Plain p
  pub room : used p ≤ capacity p

-- what is found of the cells is what the rules say
pub refused : (p : List ℕ) → (Passing p → ⊥) → false ≡ well_formed p
refused p f = go (well_formed p) refl
  where
    go : (b : Bool) → well_formed p ≡ b → false ≡ b
    go false e = refl
    go true e = absurd (f (record { sound = sound p e; plain = plain_is p e; room = in_capacity p e }))

pub accepted : (p : List ℕ) → Passing p → true ≡ well_formed p
accepted p h = sym (passes p h.sound h.plain h.room)
