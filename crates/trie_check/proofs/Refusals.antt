-- Refusals 2, 3 and 4, and what an accepted text and pool are. Assumes nothing.
use Rattle.std.specs.Prelude.{Result, Ok, Err}
use Prim.Native.Nat.{ℕ, ◌≤◌}
use mathlib.Core.Path.{◌≡◌, sym, ◌∙◌}
use mathlib.Core.Bool.{true, false}
use mathlib.Core.List.{List}
use mathlib.Core.Option.{Option}
use borrow.Author.Tests.{ltb-false}
use lib.ListN.{length}
use Rattle.refusal.specs.declared.Refusal.{Refusal}
use Rattle.refusal.specs.declared.Refusal.TheVariants.{NotADictionary}
use Rattle.refusal.specs.Answers.{answer}
use Rattle.refusal.proofs.Causes.{none_of, handed, cause_yes, cause_kept}
use Rattle.char_string_scalars.specs.Scalars.{first_non_scalar, text_causes, checked}
use Rattle.trie_pool.specs.Meaning.{Words}
use Rattle.trie_check.specs.Refusals.{is_none, pool_causes, read_causes}

-- what an accepted text and pool are
pub record Read (text : List ℕ) (m : Option Words) : Type 0 where
  pub short : length text ≤ 65535
  pub legal : length text ≤ first_non_scalar text
  pub known : is_none m ≡ false

pub read_of : (text : List ℕ) (m : Option Words) (n k : ℕ) → answer (read_causes text m) n ≡ Ok k → Read text m
read_of text m n k h =
    let r = none_of (read_causes text m) n k h in
    record { short = ltb-false 65535 (length text) r.0; legal = ltb-false (first_non_scalar text) (length text) r.1.0; known = r.1.1.0 }

-- ---- 2, 3 and 4

module _ (text : List ℕ) (m : Option Words) {a : Result ℕ Refusal} (is : a ≡ checked text) where
  texts : {b : Result ℕ Refusal} → a ≡ b → answer (text_causes text) (length text) ≡ b
  unfolding checked
  texts e = sym is ∙ e

  pub check_text : {r : Refusal} → a ≡ Err r → a ≡ answer (read_causes text m) (length text)
  unfolding checked
  check_text = handed (text_causes text) (pool_causes m) (length text) (length text) is

  pub check_pool : {k : ℕ} → a ≡ Ok k → is_none m ≡ true → Err NotADictionary ≡ answer (read_causes text m) (length text)
  check_pool e h = cause_yes (text_causes text) (record { refusal = NotADictionary; holds = is_none m }) (length text) (length text) (texts e) h

  pub check_all : {k : ℕ} → a ≡ Ok k → is_none m ≡ false → Ok k ≡ answer (read_causes text m) (length text)
  check_all e h = cause_kept (text_causes text) (record { refusal = NotADictionary; holds = is_none m }) (length text) (texts e) h
