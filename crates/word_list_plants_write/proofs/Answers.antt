-- What writing a plant's image answers, by the test of the pool and the bytes that are needed.
-- Assumes nothing.
use Rattle.std.specs.Prelude.{Result, Ok, Err}
use Rattle.refusal.specs.declared.Refusal.{Refusal}
use Prim.Native.Nat.{ℕ, ◌-◌, ◌*◌, ◌/◌, ◌≤◌, ◌<◌, min}
use native.Mathlib.Omega.{arith}
use mathlib.Core.Path.{◌≡◌, sym, ap, ◌∙◌}
use mathlib.Core.Bool.{Bool, true, false, cond}
use mathlib.Core.List.{List, [], ◌∷◌}
use lib.ListN.{length, take, drop}
use Rattle.refusal.specs.declared.Refusal.TheVariants.{NotADictionary, OutputTooShort}
use Rattle.refusal.specs.Answers.{answer, output, out_cause}
use Rattle.trie_pool.specs.Cells.{used}
use Rattle.trie_pool.specs.inner.Sound.{Sound}
use Rattle.trie_check.specs.Refusals.{pool_causes}
use Rattle.image_rules.specs.Records.{image_of}
use Rattle.image_list.specs.Listed.{list_of}
use Rattle.word_list_write.proofs.Answers.{write_at}
use Rattle.trie_plants.specs.declared.Plant.{Plant}
use Rattle.trie_plants.specs.Halves.{half_at}
use Rattle.trie_plants.specs.Rules.{is_plants}
use Rattle.trie_plants.specs.Meaning.{plant_meaning}
use Rattle.trie_plants.proofs.Parts.{meaning_is_none, view_is, from, sound_view}
use Rattle.word_list_plants_write.specs.Answers.{plant_image, plant_write_answer}

module _ (plant : Plant) (pool : List ℕ) (b : Bool) (is : b ≡ is_plants pool) (out : List ℕ) where
  -- 4
  pub not_one : b ≡ false → Err NotADictionary ≡ plant_write_answer plant pool out
  not_one e = sym (ap (λ (z : Bool). cond z (Err NotADictionary) (answer (out_cause (length (plant_image plant pool)) (length out) ∷ []) (length (plant_image plant pool)))) (meaning_is_none plant pool false (sym e ∙ is)))

  module _ (e : b ≡ true) (n : ℕ) (n_is : n ≡ min (length pool / 8) 1048576) (a : ℕ) (a_is : a ≡ half_at plant) where
    pub starts : a ≤ 8 * n
    starts = omega (arith, from plant pool n n_is a a_is (sym is ∙ e))

    pub part_sound : Sound (take (8 * n - a) (drop a pool)) (used (take (8 * n - a) (drop a pool))) 0
    part_sound = sound_view plant pool n n_is a a_is (sym is ∙ e)

    image_is : image_of (list_of (take (8 * n - a) (drop a pool))) ≡ plant_image plant pool
    unfolding plant_image
    image_is = ap (λ (l : List ℕ). image_of (list_of l)) (view_is plant pool n n_is a a_is)

    -- past 4
    module _ (r : Result ℕ Refusal) where
      pub answered : r ≡ write_at (image_of (list_of (take (8 * n - a) (drop a pool)))) out → r ≡ plant_write_answer plant pool out
      answered h =
          h ∙ ap (λ (l : List ℕ). write_at l out) image_is
          ∙ sym (ap (λ (z : Bool). cond z (Err NotADictionary) (write_at (plant_image plant pool) out)) (meaning_is_none plant pool true (sym e ∙ is)))

      pub written : {new : List ℕ} → new ≡ output r (image_of (list_of (take (8 * n - a) (drop a pool)))) out → new ≡ output r (plant_image plant pool) out
      written w = w ∙ ap (λ (l : List ℕ). output r l out) image_is
