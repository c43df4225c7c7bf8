-- What `is_plants` decides, from what its parts decide. Assumes nothing.
use Prim.Native.Nat.{ℕ, suc, ◌+◌, ◌*◌, ◌/◌, ◌%◌, ◌≤◌, ◌<◌, min}
use native.Mathlib.Omega.{arith}
use mathlib.Core.Path.{◌≡◌, refl, sym, ap, ap₂, ◌∙◌}
use mathlib.Core.Bool.{Bool, true, false}
use mathlib.Core.List.{List}
use borrow.Author.Tests.{le-leb}
use lib.ListN.{length, get_or, take, drop}
use lib.Seq.{get_or-take, get_or-drop}
use Rattle.trie_pool.specs.Rules.{capacity, cells_of, in_half}
use Rattle.trie_node.specs.inner.Checks.{Decides}
use Rattle.trie_check.proofs.Parts as whole
use Rattle.trie_plants.specs.declared.Plant.TheVariants.{A, B}
use Rattle.trie_plants.specs.Halves.{room_of}
use Rattle.trie_plants.specs.Rules.{in_own_half, is_plants}
use Rattle.trie_plants.proofs.Parts.{is_plants_holds, own_half, rooms, room_fits, some_node}

refused : (pool : List ℕ) → (is_plants pool ≡ true → ⊥) → false ≡ is_plants pool
refused pool f = go (is_plants pool) refl
  where
    go : (b : Bool) → is_plants pool ≡ b → false ≡ b
    go false e = refl
    go true e = absurd (f e)

module _ (pool : List ℕ) (n : ℕ) (is : n ≡ min (length pool / 8) 1048576) where
  pub empty : n ≡ 0 → false ≡ is_plants pool
  empty z = refused pool (λ e. omega (arith, some_node A pool e))

  module _ (some : n ≡ 0 → ⊥) {a : ℕ} (a_is : a ≡ get_or pool 3 0) where
    room_a : a ≡ room_of A pool
    room_a = a_is ∙ sym (get_or-take (8 * capacity pool) pool 3 0 (omega arith))

    pub over_a : n < a → false ≡ is_plants pool
    over_a l = refused pool (λ e. omega (arith, room_fits A pool e, room_a))

    module _ {b : ℕ} (b_is : b ≡ get_or pool 7 0) where
      room_b : b ≡ room_of B pool
      room_b = b_is ∙ sym (get_or-drop 4 (cells_of pool) 3 0 ∙ get_or-take (8 * capacity pool) pool 7 0 (omega arith))

      pub over_b : n < b → false ≡ is_plants pool
      over_b l = refused pool (λ e. omega (arith, room_fits B pool e, room_b))

      pub over_both : n + 1 < a + b → false ≡ is_plants pool
      over_both l = refused pool (λ e. omega (arith, rooms pool e, room_a, room_b))

      pub asks : a ≤ n → b ≤ n → (8 ≤ length (take (8 * n) pool)) × (length (take (8 * n) pool) % 8 ≡ 0) × (a ≤ 1048576) × (b ≤ 1048576) × (8 * a ≤ length (take (8 * n) pool)) × (8 * b ≤ length (take (8 * n) pool))
      asks l m = let z = whole.long pool n is in (omega (arith, z), omega (arith, z), omega arith, omega arith, omega (arith, z), omega (arith, z))

      own_a : in_half a (take (8 * n) pool) ≡ in_own_half A pool
      own_a = ap₂ in_half room_a (whole.cells_are pool n is)

      own_b : in_half b (drop 4 (take (8 * n) pool)) ≡ in_own_half B pool
      own_b = ap₂ in_half room_b (ap (drop 4) (whole.cells_are pool n is))

      pub all : {r : Bool} → a + b ≤ n + 1 → Decides r ((in_half a (take (8 * n) pool) ≡ true) × (in_half b (drop 4 (take (8 * n) pool)) ≡ true)) → r ≡ is_plants pool
      all {r = true} l d =
          let h = d.yes' refl in
          sym (is_plants_holds A pool (sym own_a ∙ h.0) (sym own_b ∙ h.1) (le-leb (room_of A pool + room_of B pool) (suc (capacity pool)) (omega (arith, room_a, room_b))))
      all {r = false} l d = refused pool (λ e. d.no' refl (own_a ∙ own_half A pool e, own_b ∙ own_half B pool e))
