-- The words of a plant in its half of a pool. Assumes nothing.
use Prim.Native.Nat.{ℕ, ◌-◌, ◌*◌, ◌/◌, ◌≤◌, min}
use native.Mathlib.Omega.{arith}
use mathlib.Core.Path.{◌≡◌, sym, ◌∙◌, ap}
use mathlib.Core.Bool.{true, false}
use mathlib.Core.List.{List}
use lib.ListN.{length, take, drop}
use Rattle.trie_check.specs.Refusals.{is_none}
use Rattle.trie_plants.specs.declared.Plant.{Plant}
use Rattle.trie_plants.specs.Halves.{half_at}
use Rattle.trie_plants.specs.Rules.{is_plants}
use Rattle.trie_plants.specs.Meaning.{plant_meaning}
use Rattle.trie_plants.proofs.Parts.{meaning_yes, known_is, view_is, from, readable_view}
use Rattle.newmm_answers.specs.inner.Passing.{in_view}
use Rattle.newmm_answers.proofs.Views.{Viewed}

module _ (plant : Plant) (pool : List ℕ) (n : ℕ) (is : n ≡ min (length pool / 8) 1048576) (a : ℕ) (a_is : a ≡ half_at plant) (k : is_none (plant_meaning plant pool) ≡ false) where
  known : is_plants pool ≡ true
  known = known_is plant pool k

  pub plant_view : Viewed (plant_meaning plant pool) (take (8 * n - a) (drop a pool))
  plant_view = record { means = meaning_yes plant pool known ∙ ap in_view (sym (view_is plant pool n is a a_is)); readable = readable_view plant pool n is a a_is known }

  -- the view starts in the root
  pub view_from : a ≤ 8 * n
  view_from = omega (arith, from plant pool n is a a_is known)
