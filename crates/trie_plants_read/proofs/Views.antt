-- The cells that are lent on of a plants' pool. Assumes nothing.
use Rattle.std.specs.Prelude.{Result, Ok}
use Rattle.refusal.specs.declared.Refusal.{Refusal}
use Prim.Native.Nat.{ℕ, ◌+◌, ◌-◌, ◌*◌, ◌/◌, ◌≤◌, min}
use mathlib.Core.Path.{◌≡◌, sym, ◌∙◌}
use mathlib.Core.Bool.{true}
use mathlib.Core.List.{List}
use lib.ListN.{length, take, drop}
use Rattle.refusal.specs.Answers.{answer}
use Rattle.trie_check.specs.Refusals.{read_causes}
use Rattle.trie_check.proofs.Refusals.{read_of}
use Rattle.trie_char_answers.proofs.Reading.{View}
use Rattle.trie_plants.specs.declared.Plant.{Plant}
use Rattle.trie_plants.specs.Halves.{half_at}
use Rattle.trie_plants.specs.Rules.{is_plants}
use Rattle.trie_plants.specs.Meaning.{plant_meaning}
use Rattle.trie_plants_answers.specs.Answers.{own_terms}
use Rattle.trie_plants.proofs.Parts.{known_is, from, held_view, terms_view, readable_view, sound_view}
use Rattle.trie_pool.specs.Cells.{used}
use Rattle.trie_pool.proofs.Terms.{term_class}

module _ (plant : Plant) (pool text : List ℕ) {a : Result ℕ Refusal} {k : ℕ} (is : a ≡ answer (read_causes text (plant_meaning plant pool)) (length text)) (yes' : a ≡ Ok k) (n : ℕ) (n_is : n ≡ min (length pool / 8) 1048576) (h : ℕ) (h_is : h ≡ half_at plant) where
  known : is_plants pool ≡ true
  known = known_is plant pool (read_of text (plant_meaning plant pool) (length text) k (sym is ∙ yes')).known

  pub inside : h + 4 ≤ 8 * n
  inside = from plant pool n n_is h h_is known

  pub view : View (plant_meaning plant pool) (own_terms plant pool) (take (8 * n - h) (drop h pool))
  view = record { words = held_view plant pool n n_is h h_is known; terms = terms_view plant pool n n_is h h_is known; readable = readable_view plant pool n n_is h h_is known; classes = term_class (take (8 * n - h) (drop h pool)) (used (take (8 * n - h) (drop h pool))) (sound_view plant pool n n_is h h_is known) }
