-- What a single call tells: no more ends than there was room for. Assumes nothing.
use Rattle.std.specs.Prelude.{Result, Ok, Err}
use Rattle.refusal.specs.declared.Refusal.{Refusal}
use Prim.Native.Nat.{ℕ, ◌≤◌}
use native.Mathlib.Omega.{arith}
use mathlib.Core.Path.{◌≡◌, refl, sym}
use mathlib.Core.List.{List}
use mathlib.Core.Option.{Option}
use lib.ListN.{length, drop, length-append, length-drop, length-replicate}
use borrow.Author.Tests.{ltb-false}
use Rattle.refusal.specs.Answers.{answer, output}
use Rattle.refusal.proofs.Causes.{none_of}
use Rattle.trie_pool.specs.Meaning.{Words}
use Rattle.trie_check.specs.Refusals.{held}
use Rattle.newmm_rules.specs.declared.Mode.{Mode}
use Rattle.newmm_answers.specs.Answers.{cut_of, first_causes, cut_causes, accepts, told, cut_answer, cleared, scratch_after}
use Rattle.newmm_answers.proofs.Told.{accepted_is}
use Rattle.newmm_many_answers.specs.Turns.{ends_told}

-- a text in a mode, the pool having this meaning, by so many scratch cells and room for so many
-- ends
module _ (mode : Mode) (text : List ℕ) (m : Option Words) (cells room : ℕ) where
  abbrev pub ends : List ℕ
  ends = (cut_of mode (held m) text).ends

  abbrev pub edges : ℕ
  edges = (cut_of mode (held m) text).edges

  abbrev pub accepted : Result ℕ Refusal
  accepted = accepts mode text m cells room

  -- the ends of an accepted call fit
  pub accepted_fits : (n : ℕ) → accepted ≡ Ok n → (n ≡ length ends) × (length ends ≤ room)
  accepted_fits n h =
      let q = none_of (cut_causes mode text m cells room) (length ends) n h in
      (sym (accepted_is (cut_causes mode text m cells room) (length ends) n h), ltb-false room (length ends) q.1.1.1.1.0)

  pub told_fits : ends_told (cut_answer mode text m cells room) ≤ room
  told_fits = go accepted refl
    where
      go : (x : Result ℕ Refusal) → accepted ≡ x → ends_told (told x edges) ≤ room
      go (Ok n) h = let q = accepted_fits n h in omega (arith, q.0, q.1)
      go (Err r) h = omega arith

  -- a row that is written where the call is accepted is as long as it was
  pub written_as_long : (new old : List ℕ) → (length ends ≤ room → length new ≤ length old) → length (output accepted new old) ≡ length old
  written_as_long new old fits = go accepted refl
    where
      go : (x : Result ℕ Refusal) → accepted ≡ x → length (output x new old) ≡ length old
      go (Ok n) h = omega (arith, fits (accepted_fits n h).1, length-append new (drop (length new) old), length-drop (length new) old)
      go (Err r) h = refl

pub scratch_as_long : (text : List ℕ) (m : Option Words) (scratch : List ℕ) → length (scratch_after text m scratch) ≡ length scratch
scratch_as_long text m scratch = go (answer (first_causes text m (length scratch)) 0)
  where
    go : (x : Result ℕ Refusal) → length (cleared x scratch) ≡ length scratch
    go (Ok n) = length-replicate {A = ℕ} (length scratch) 0
    go (Err r) = refl
