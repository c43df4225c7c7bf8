-- Refusal 7, behind 2, 3 and 4. Assumes nothing.
use Rattle.std.specs.Prelude.{Result, Ok, Err}
use Prim.Native.Nat.{ℕ, ◌-◌, ◌≤◌, ◌<◌}
use native.Mathlib.Omega.{arith}
use mathlib.Core.Path.{◌≡◌, sym, ap, ◌∙◌}
use mathlib.Core.Bool.{false}
use mathlib.Core.List.{List}
use mathlib.Core.Option.{Option}
use borrow.Author.Tests.{ltb-false, lt-ltb, le-ltb}
use lib.Dec.{ltb}
use lib.ListN.{length}
use Rattle.refusal.specs.declared.Refusal.{Refusal}
use Rattle.refusal.specs.declared.Refusal.TheVariants.{WordTooLong}
use Rattle.refusal.specs.Answers.{Cause, answer}
use Rattle.refusal.proofs.Causes.{none_of, handed, cause_yes, cause_kept}
use Rattle.char_string_scalars.specs.Scalars.{first_non_scalar}
use Rattle.char_string_trim.specs.Trimming.{trimmed_of}
use Rattle.trie_pool.specs.Meaning.{Words}
use Rattle.trie_check.specs.Refusals.{is_none, read_causes}
use Rattle.trie_char_answers.specs.Refusals.{length_causes, remove_causes}

pub record Word (word : List ℕ) (m : Option Words) : Type 0 where
  pub legal : length word ≤ first_non_scalar word
  pub known : is_none m ≡ false
  pub short : length (trimmed_of word) ≤ 255

pub word_of : (word : List ℕ) (m : Option Words) (n k : ℕ) → answer (remove_causes word m) n ≡ Ok k → Word word m
word_of word m n k h =
    let r = none_of (remove_causes word m) n k h in
    record { legal = ltb-false (first_non_scalar word) (length word) r.1.0; known = r.1.1.0; short = ltb-false 255 (length (trimmed_of word)) r.1.1.1.0 }

module _ (word : List ℕ) (m : Option Words) {a : Result ℕ Refusal} (is : a ≡ answer (read_causes word m) (length word)) where
  abbrev cause : Cause
  cause = record { refusal = WordTooLong (length (trimmed_of word)); holds = ltb 255 (length (trimmed_of word)) }

  pub word_read : {r : Refusal} → a ≡ Err r → a ≡ answer (remove_causes word m) (length word)
  word_read = handed (read_causes word m) (length_causes word) (length word) (length word) is

  pub word_long : {k : ℕ} (t : ℕ) → a ≡ Ok k → t ≡ length (trimmed_of word) → 255 < t → Err (WordTooLong t) ≡ answer (remove_causes word m) (length word)
  word_long t e l h =
      ap (λ (z : ℕ). Err (WordTooLong z)) l ∙ cause_yes (read_causes word m) cause (length word) (length word) (sym is ∙ e) (lt-ltb 255 (length (trimmed_of word)) (omega arith))

  pub word_short : {k : ℕ} (t : ℕ) → a ≡ Ok k → t ≡ length (trimmed_of word) → t ≤ 255 → Ok k ≡ answer (remove_causes word m) (length word)
  word_short t e l h = cause_kept (read_causes word m) cause (length word) (sym is ∙ e) (le-ltb 255 (length (trimmed_of word)) (omega arith))
