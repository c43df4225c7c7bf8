-- What writing an image answers, by the test of the pool and the bytes that are needed. Assumes
-- nothing.
use Rattle.std.specs.Prelude.{Result, Ok, Err}
use Rattle.refusal.specs.declared.Refusal.{Refusal}
use Prim.Native.Nat.{ℕ, ◌+◌, ◌*◌, ◌/◌, ◌≤◌, ◌<◌, min}
use native.Mathlib.Omega.{arith}
use mathlib.Core.Path.{◌≡◌, refl, sym, ap, subst, ◌∙◌}
use mathlib.Core.Bool.{Bool, true, false, cond}
use mathlib.Core.List.{List, [], ◌∷◌, ◌++◌}
use lib.ListN.{length, take, drop}
use Rattle.refusal.specs.declared.Refusal.TheVariants.{NotADictionary, OutputTooShort}
use Rattle.refusal.specs.Answers.{answer, output, out_cause}
use Rattle.trie_pool.specs.Cells.{used}
use Rattle.trie_pool.specs.Rules.{cells_of, is_dictionary}
use Rattle.trie_pool.specs.Meaning.{meaning}
use Rattle.trie_pool.specs.inner.Sound.{Sound}
use Rattle.trie_check.specs.Refusals.{is_none, pool_causes}
use Rattle.trie_check.proofs.Parts.{meaning_is_none, cells_are, sound_part}
use Rattle.image_rules.specs.Records.{image_of}
use Rattle.image_list.specs.Listed.{list_of}
use Rattle.word_list_write.specs.Answers.{image_in, write_answer}

-- what writing an image answers
abbrev pub write_at : List ℕ → List ℕ → Result ℕ Refusal
write_at image out = answer (out_cause (length image) (length out) ∷ []) (length image)

module _ (pool : List ℕ) (b : Bool) (is : b ≡ is_dictionary pool) (out : List ℕ) where
  -- 4
  pub not_one : b ≡ false → Err NotADictionary ≡ write_answer pool out
  not_one e = sym (ap (λ (z : Bool). cond z (Err NotADictionary) (answer (out_cause (length (image_in pool)) (length out) ∷ []) (length (image_in pool)))) (meaning_is_none pool false (sym e ∙ is)))

  module _ (e : b ≡ true) (n : ℕ) (n_is : n ≡ min (length pool / 8) 1048576) where
    pub part_sound : Sound (take (8 * n) pool) (used (take (8 * n) pool)) 0
    part_sound = sound_part pool n n_is (sym is ∙ e)

    image_is : image_of (list_of (take (8 * n) pool)) ≡ image_in pool
    unfolding image_in
    image_is = ap (λ (l : List ℕ). image_of (list_of l)) (cells_are pool n n_is)

    -- past 4
    module _ (r : Result ℕ Refusal) where
      pub answered : r ≡ write_at (image_of (list_of (take (8 * n) pool))) out → r ≡ write_answer pool out
      answered a =
          a ∙ ap (λ (l : List ℕ). write_at l out) image_is
          ∙ sym (ap (λ (z : Bool). cond z (Err NotADictionary) (write_at (image_in pool) out)) (meaning_is_none pool true (sym e ∙ is)))

      pub written : {new : List ℕ} → new ≡ output r (image_of (list_of (take (8 * n) pool))) out → new ≡ output r (image_in pool) out
      written w = w ∙ ap (λ (l : List ℕ). output r l out) image_is
