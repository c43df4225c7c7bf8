-- What a plant is charged, by its own words. Assumes nothing.
use Rattle.std.specs.Prelude.{Ok, Err}
use Prim.Native.Nat.{ℕ, ◌+◌, ◌-◌, ◌≤◌, ◌<◌}
use native.Mathlib.Omega.{arith}
use mathlib.Core.Path.{◌≡◌, sym, ap, subst, ◌∙◌}
use mathlib.Core.Bool.{Bool, true, cond}
use mathlib.Core.List.{List, [], ◌∷◌, ◌++◌}
use borrow.Author.Tests.{lt-ltb, le-ltb}
use lib.Dec.{ltb}
use lib.ListN.{length}
use Rattle.refusal.specs.declared.Refusal.TheVariants.{TooFewNodes}
use Rattle.refusal.specs.Answers.{Cause, answer}
use Rattle.refusal.proofs.Order.{accepted_first}
use Rattle.refusal.proofs.Firsts.{accepted_if_none}
use Rattle.char_string_trim.specs.Trimming.{trimmed_of}
use Rattle.trie_pool.specs.Cells.{used}
use Rattle.trie_pool.specs.Words.{lacking}
use Rattle.trie_pool.specs.Meaning.{Words, words_in, with_word, report_term}
use Rattle.trie_pool.specs.Listing.{Number, Prefix}
use Rattle.trie_pool.proofs.Listing.{nodes_in_use}
use Rattle.trie_pool.proofs.With.{nodes_with_word}
use Rattle.trie_pool.proofs.Number.{one_number}
use Rattle.trie_check.specs.Refusals.{is_none, pool_causes}
use Rattle.trie_char_answers.specs.Refusals.{remove_causes}
use Rattle.trie_plants.specs.declared.Plant.{Plant}
use Rattle.trie_plants.specs.declared.Plant.TheVariants.{A, B}
use Rattle.trie_plants.specs.Halves.{half_of, limit_of, charge_of}
use Rattle.trie_plants.specs.Rules.{is_plants}
use Rattle.trie_plants.specs.Meaning.{plant_meaning}
use Rattle.trie_plants.proofs.Parts.{meaning_yes, known_is, held_is, sound, some_used, in_room, rooms}
use Rattle.trie_plants_answers.specs.Refusals.{charge_with, limit_cause}
use Rattle.trie_plants_answers.specs.Answers.{own_words, own_terms, plant_added}
use Rattle.image_rules.specs.Records.{Term}
use Rattle.image_rules.specs.Lists.{terms_in, charge}
use Rattle.word_list_answers.specs.Answers.{is_broken, list_in, list_of, image_cause}
use Rattle.theorems_images.proofs.Charge.{charge_is as image_charge}
use Rattle.theorems_images.proofs.Back.{only_images}
use Rattle.theorems_plants.specs.Charges.{ChargeIs, WithinLimits, AddIsCharged, ReadIsCharged}

module _ (plant : Plant) (pool : List ℕ) (known : is_plants pool ≡ true) where
  abbrev half : List ℕ
  half = half_of plant pool

  counted : Number (Prefix (own_words plant pool)) (charge_of plant pool)
  counted = subst (λ (f : Words). Number (Prefix f) (used half - 1)) (sym (held_is plant pool known)) (nodes_in_use half (used half) (sound plant pool known))

  pub counted_with : (word : List ℕ) → Number (Prefix (with_word word (own_words plant pool))) (charge_with plant pool word)
  counted_with [] =
      let z : charge_of plant pool ≡ charge_of plant pool + 0 = omega arith in
      subst (Number (Prefix (with_word [] (own_words plant pool)))) z counted
  counted_with (y ∷ w) =
      let z : used half + lacking half (y ∷ w) 0 - 1 ≡ used half - 1 + lacking half (y ∷ w) 0 = omega (arith, some_used plant pool known) in
      subst (Number (Prefix (with_word (y ∷ w) (own_words plant pool)))) z
      (subst (λ (f : Words). Number (Prefix (with_word (y ∷ w) f)) (used half + lacking half (y ∷ w) 0 - 1)) (sym (held_is plant pool known)) (nodes_with_word half (used half) (sound plant pool known) y w))

pub charge_is : ChargeIs
charge_is plant pool known = (counted plant pool known, counted_with plant pool known)

pub within_limits : WithinLimits
within_limits pool known = (
  λ plant. omega (arith, some_used plant pool known, in_room plant pool known),
  omega (arith, rooms pool known, some_used A pool known, in_room A pool known, some_used B pool known, in_room B pool known),
)

-- ---- refusal 8

-- a charge behind causes of which none holds
module _ (plant : Plant) (pool : List ℕ) (cs : List Cause) (n charge k : ℕ) (free : answer cs n ≡ Ok n) (is : charge ≡ k) where
  decides : answer (cs ++ (limit_cause plant pool charge ∷ [])) n ≡ cond (ltb (limit_of plant pool) k) (Err (TooFewNodes (k - limit_of plant pool))) (Ok n)
  decides = accepted_first cs (limit_cause plant pool charge ∷ []) n n free ∙ ap (λ (c : ℕ). cond (ltb (limit_of plant pool) c) (Err (TooFewNodes (c - limit_of plant pool))) (Ok n)) is

  pub over : limit_of plant pool < k → answer (cs ++ (limit_cause plant pool charge ∷ [])) n ≡ Err (TooFewNodes (k - limit_of plant pool))
  over l = decides ∙ ap (λ (b : Bool). cond b (Err (TooFewNodes (k - limit_of plant pool))) (Ok n)) (lt-ltb (limit_of plant pool) k l)

  pub under : k ≤ limit_of plant pool → answer (cs ++ (limit_cause plant pool charge ∷ [])) n ≡ Ok n
  under l = decides ∙ ap (λ (b : Bool). cond b (Err (TooFewNodes (k - limit_of plant pool))) (Ok n)) (le-ltb (limit_of plant pool) k l)

pub add_is_charged : AddIsCharged
add_is_charged plant word class pool k free m =
    let cs : List Cause = remove_causes word (plant_meaning plant pool) in
    let n : ℕ = report_term (trimmed_of word) (own_terms plant pool) (plant_added plant word class pool) in
    let known : is_plants pool ≡ true = known_is plant pool free.1.1.0 in
    let is : charge_with plant pool (trimmed_of word) ≡ k =
    one_number (Prefix (with_word (trimmed_of word) (own_words plant pool))) (charge_with plant pool (trimmed_of word)) k (counted_with plant pool known (trimmed_of word)) m in
    let a : answer cs n ≡ Ok n = accepted_if_none cs n free in
    (over plant pool cs n (charge_with plant pool (trimmed_of word)) k a is, under plant pool cs n (charge_with plant pool (trimmed_of word)) k a is)

-- an image's words
pub read_is_charged : ReadIsCharged
read_is_charged plant image pool ts k known bytes is m =
    let cs : List Cause = pool_causes (plant_meaning plant pool) ++ (image_cause image ∷ []) in
    let n : ℕ = length (list_of image) in
    let list_is : list_of image ≡ ts = ap list_in is in
    let counts : charge (list_of image) ≡ k = ap charge list_is ∙ one_number (Prefix (words_in (terms_in ts))) (charge ts) k (image_charge ts (only_images image ts bytes is).1) m in
    let free : answer cs n ≡ Ok n = accepted_if_none cs n (ap is_none (meaning_yes plant pool known), (ap is_broken is, tt)) in
    (over plant pool cs n (charge (list_of image)) k free counts, λ l. under plant pool cs n (charge (list_of image)) k free counts l ∙ ap (λ (l : List Term). Ok (length l)) list_is)
