-- A plant's words are those that are seen in its half. Assumes nothing.
use Prim.Native.Nat.{ℕ, ◌-◌, ◌*◌, ◌/◌, ◌≤◌, min}
use native.Mathlib.Omega.{arith}
use mathlib.Core.Path.{◌≡◌, sym, ◌∙◌, ap}
use mathlib.Core.Bool.{true, false}
use mathlib.Core.List.{List}
use mathlib.Core.Option.{none}
use lib.ListN.{length, take, drop}
use Rattle.trie_pool.specs.inner.Sound.{Readable}
use Rattle.trie_plants.specs.declared.Plant.{Plant}
use Rattle.trie_plants.specs.Halves.{half_at}
use Rattle.trie_plants.specs.Rules.{is_plants}
use Rattle.trie_plants.specs.Meaning.{plant_meaning}
use Rattle.trie_plants.proofs.Parts.{meaning_yes, meaning_no, view_is, from, readable_view}
use Rattle.newmm_answers.specs.inner.Passing.{in_view}

pub no_plants : (plant : Plant) (pool : List ℕ) → is_plants pool ≡ false → none ≡ plant_meaning plant pool
no_plants plant pool e = sym (meaning_no plant pool e)

module _ (plant : Plant) (pool : List ℕ) (n : ℕ) (is : n ≡ min (length pool / 8) 1048576) (a : ℕ) (a_is : a ≡ half_at plant) (e : is_plants pool ≡ true) where
  -- the view starts in the root
  pub half_inside : a ≤ 8 * n
  half_inside = omega (arith, from plant pool n is a a_is e)

  pub readable_plant : Readable (take (8 * n - a) (drop a pool)) 0
  readable_plant = readable_view plant pool n is a a_is e

  pub seen_plant : in_view (take (8 * n - a) (drop a pool)) ≡ plant_meaning plant pool
  seen_plant = ap in_view (view_is plant pool n is a a_is) ∙ sym (meaning_yes plant pool e)
