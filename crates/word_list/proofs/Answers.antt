-- What reading an image answers, by the test of the pool and what replacing its words answers; and
-- the pool that it leaves. Assumes nothing.
use Rattle.std.specs.Prelude.{Result, Ok, Err}
use Rattle.refusal.specs.declared.Refusal.{Refusal}
use Rattle.refusal.specs.declared.Refusal.TheVariants.{NotADictionary}
use Prim.Native.Nat.{ℕ, ◌*◌, ◌/◌, ◌≤◌, min}
use native.Mathlib.Omega.{arith}
use mathlib.Core.Path.{◌≡◌, sym, ap, ◌∙◌}
use mathlib.Core.Bool.{Bool, true, false, cond}
use mathlib.Core.List.{List, ◌++◌}
use lib.ListN.{length, take, drop, take-append-drop}
use Rattle.trie_pool.specs.Rules.{is_dictionary}
use Rattle.trie_check.proofs.Parts.{meaning_is_none, long, sound_part, plain_part}
use Rattle.trie_change.proofs.Sides.{plain_kept}
use Rattle.trie_char_answers.specs.Changes.{After}
use Rattle.trie_char_answers.proofs.Changing.{became}
use Rattle.image_build.specs.inner.Building.{Roomy, Replaced}
use Rattle.word_list_answers.specs.Answers.{replace_answer, read_answer, image_terms}

module _ (pool image : List ℕ) (b : Bool) (is : b ≡ is_dictionary pool) where
  -- 4
  pub not_one : b ≡ false → Err NotADictionary ≡ read_answer image pool
  not_one e = sym (ap (λ (z : Bool). cond z (Err NotADictionary) (replace_answer image (min (length pool / 8) 1048576))) (meaning_is_none pool false (sym e ∙ is)))

  module _ (e : b ≡ true) (n : ℕ) (n_is : n ≡ min (length pool / 8) 1048576) where
    pub roomy : Roomy (take (8 * n) pool) n
    roomy = record { sound = sound_part pool n n_is (sym is ∙ e); fits = omega (arith, long pool n n_is); small = omega (arith, n_is) }

    -- past 4
    pub answered : {r : Result ℕ Refusal} → r ≡ replace_answer image n → r ≡ read_answer image pool
    answered {r} a =
        a ∙ ap (replace_answer image) n_is
        ∙ sym (ap (λ (z : Bool). cond z (Err NotADictionary) (replace_answer image (min (length pool / 8) 1048576))) (meaning_is_none pool true (sym e ∙ is)))

    pub after : (r : Result ℕ Refusal) (new : List ℕ) → length new ≡ length (take (8 * n) pool) → Replaced r image (take (8 * n) pool) new n → After r pool (new ++ drop (8 * n) pool) (image_terms image)
    after (Ok words) new k q =
        became pool n n_is new (image_terms image) (k ∙ long pool n n_is) q.holds.sound (plain_kept q.beside (plain_part pool n n_is (sym is ∙ e))) q.holds.held
    after (Err refusal) new k q = ap (λ (z : List ℕ). z ++ drop (8 * n) pool) q ∙ take-append-drop (8 * n) pool
