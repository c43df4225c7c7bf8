-- What reading an image into a plant answers, by the test of the pool and what replacing its words
-- answers; and the pool that it leaves. Assumes nothing.
use Rattle.std.specs.Prelude.{Result, Ok, Err}
use Rattle.refusal.specs.declared.Refusal.{Refusal}
use Rattle.refusal.specs.declared.Refusal.TheVariants.{NotADictionary, BadImage, TooFewNodes}
use Prim.Native.Nat.{ℕ, suc, ◌+◌, ◌-◌, ◌*◌, ◌/◌, ◌≤◌, ◌<◌, min}
use native.Mathlib.Omega.{arith}
use native.Mathlib.Decide.{dec_lt}
use mathlib.Core.Path.{◌≡◌, refl, sym, ap, ◌∙◌}
use mathlib.Core.Bool.{Bool, true, false, cond}
use mathlib.Core.List.{List, ◌++◌}
use borrow.Author.Tests.{lt-ltb, le-ltb}
use lib.Dec.{ltb}
use lib.ListN.{length, get_or, take, drop, take-append-drop}
use Rattle.trie_pool.specs.Cells.{used}
use Rattle.trie_check.proofs.Parts.{inside}
use Rattle.image_rules.specs.Lists.{charge}
use Rattle.image_build.specs.inner.Building.{Roomy, Replaced}
use Rattle.word_list_answers.specs.Answers.{list_of, image_cause, replace_answer, image_terms}
use Rattle.trie_plants.specs.declared.Plant.{Plant}
use Rattle.trie_plants.specs.Halves.{half_at, room_of, limit_of}
use Rattle.trie_plants.specs.Rules.{is_plants}
use Rattle.trie_plants.proofs.Parts.{meaning_is_none, half_low, some_used, in_room, room_fits, some_node, long, from, sound_view}
use Rattle.trie_plants.proofs.Same.{cell_of}
use Rattle.trie_plants_answers.specs.Changes.{PlantAfter}
use Rattle.trie_plants_answers.proofs.Became.{became}
use Rattle.word_list_plants.specs.Answers.{plant_read_answer}

module _ (plant : Plant) (pool image : List ℕ) (b : Bool) (is : b ≡ is_plants pool) where
  -- past 4: what the image says decides, and the limit
  abbrev by : Result ℕ Refusal
  by = cond (image_cause image).holds (Err (image_cause image).refusal)
      (cond (ltb (limit_of plant pool) (charge (list_of image))) (Err (TooFewNodes (charge (list_of image) - limit_of plant pool))) (Ok (length (list_of image))))

  -- 4
  pub not_one : b ≡ false → Err NotADictionary ≡ plant_read_answer plant image pool
  not_one e = sym (ap (λ (z : Bool). cond z (Err NotADictionary) by) (meaning_is_none plant pool false (sym e ∙ is)))

  module _ (e : b ≡ true) where
    known : is_plants pool ≡ true
    known = sym is ∙ e

    past : plant_read_answer plant image pool ≡ by
    past = ap (λ (z : Bool). cond z (Err NotADictionary) by) (meaning_is_none plant pool true (sym known))

    module _ (a : ℕ) (a_is : a ≡ half_at plant) where
      -- the cell of the limit
      pub limit_at : a + 3 < length pool
      limit_at = omega (arith, some_node plant pool known, half_low plant, inside pool (min (length pool / 8) 1048576) refl)

      module _ (room : ℕ) (room_is : room ≡ get_or pool (a + 3) 0) where
        room_of_plant : room ≡ room_of plant pool
        room_of_plant = room_is ∙ ap (λ (k : ℕ). get_or pool (k + 3) 0) a_is ∙ sym (cell_of plant pool 3 (omega (arith, some_node plant pool known, half_low plant)))

        some_room : 1 ≤ room_of plant pool
        some_room = omega (arith, some_used plant pool known, in_room plant pool known)

        -- The root counts, and the limit does not count it.
        pub answered : {r : Result ℕ Refusal} → r ≡ replace_answer image room → r ≡ plant_read_answer plant image pool
        answered {r} h = h ∙ ap (λ (z : Result ℕ Refusal). cond (image_cause image).holds (Err (image_cause image).refusal) z) (go (dec_lt (limit_of plant pool) (charge (list_of image)))) ∙ sym past
          where
            less : suc (charge (list_of image)) - room ≡ charge (list_of image) - limit_of plant pool
            less = omega (arith, room_of_plant, some_room)

            go : Dec (limit_of plant pool < charge (list_of image))
                → ◌≡◌ {A = Result ℕ Refusal} (cond (ltb room (suc (charge (list_of image)))) (Err (TooFewNodes (suc (charge (list_of image)) - room))) (Ok (length (list_of image))))
                (cond (ltb (limit_of plant pool) (charge (list_of image))) (Err (TooFewNodes (charge (list_of image) - limit_of plant pool))) (Ok (length (list_of image))))
            go (yes m) =
                ap (λ (z : Bool). cond z (Err (TooFewNodes (suc (charge (list_of image)) - room))) (Ok (length (list_of image)))) (lt-ltb room (suc (charge (list_of image))) (omega (arith, room_of_plant, some_room)))
                ∙ ap (λ (z : ℕ). Err (TooFewNodes z)) less
                ∙ sym (ap (λ (z : Bool). cond z (Err (TooFewNodes (charge (list_of image) - limit_of plant pool))) (Ok (length (list_of image)))) (lt-ltb (limit_of plant pool) (charge (list_of image)) m))
            go (no m) =
                ap (λ (z : Bool). cond z (Err (TooFewNodes (suc (charge (list_of image)) - room))) (Ok (length (list_of image)))) (le-ltb room (suc (charge (list_of image))) (omega (arith, room_of_plant, some_room)))
                ∙ sym (ap (λ (z : Bool). cond z (Err (TooFewNodes (charge (list_of image) - limit_of plant pool))) (Ok (length (list_of image)))) (le-ltb (limit_of plant pool) (charge (list_of image)) (omega arith)))

        module _ (n : ℕ) (n_is : n ≡ min (length pool / 8) 1048576) where
          pub starts : a ≤ 8 * n
          starts = omega (arith, from plant pool n n_is a a_is known)

          pub roomy : Roomy (take (8 * n - a) (drop a pool)) room
          roomy = record {
            sound = sound_view plant pool n n_is a a_is known;
            fits = omega (arith, long plant pool n n_is a a_is, room_of_plant, room_fits plant pool known, half_low plant);
            small = omega (arith, room_of_plant, room_fits plant pool known);
          }

          pub after : (r : Result ℕ Refusal) (new : List ℕ) → length new ≡ length (take (8 * n - a) (drop a pool)) → Replaced r image (take (8 * n - a) (drop a pool)) new room
              → PlantAfter plant r pool (take a pool ++ (new ++ drop (8 * n - a) (drop a pool))) (image_terms image)
          after (Ok words) new k q =
              became plant pool known n n_is a a_is new k q.beside q.holds.sound (omega (arith, room_of_plant, q.within)) (image_terms image) q.holds.held
          after (Err refusal) new k q =
              ap (λ (z : List ℕ). take a pool ++ (z ++ drop (8 * n - a) (drop a pool))) q ∙ ap (λ (z : List ℕ). take a pool ++ z) (take-append-drop (8 * n - a) (drop a pool)) ∙ take-append-drop a pool
