-- Refusals 2 to 5, and what a call that comes past them has. Assumes nothing.
use Rattle.std.specs.Prelude.{Result, Ok, Err}
use Prim.Native.Nat.{ℕ, ◌≤◌, ◌<◌}
use native.Mathlib.Omega.{arith}
use mathlib.Core.Path.{◌≡◌, sym, ◌∙◌, ap}
use mathlib.Core.Bool.{false}
use mathlib.Core.List.{List}
use mathlib.Core.Option.{Option}
use lib.ListN.{length}
use borrow.Author.Tests.{ltb-false, lt-ltb, le-ltb}
use Rattle.refusal.specs.declared.Refusal.{Refusal}
use Rattle.refusal.specs.declared.Refusal.TheVariants.{ScratchTooShort}
use Rattle.refusal.specs.Answers.{answer}
use Rattle.refusal.proofs.Order.{refused_first}
use Rattle.refusal.proofs.Causes.{None, none_of, again, cause_yes, cause_kept}
use Rattle.trie_pool.specs.Meaning.{Words}
use Rattle.trie_check.specs.Refusals.{is_none, read_causes}
use Rattle.trie_check.proofs.Refusals.{read_of}
use Rattle.newmm_answers.specs.Answers.{scratch_for, scratch_cause, scratch_causes, first_causes}
use Rattle.newmm_answers.specs.inner.Passing.{Passes}

-- ---- refusals 2 to 5

module _ (text : List ℕ) (m : Option Words) (cells : ℕ) {a : Result ℕ Refusal} (is : a ≡ answer (read_causes text m) (length text)) where
  pub refused_early : {r : Refusal} → a ≡ Err r → a ≡ answer (first_causes text m cells) (length text)
  refused_early e = e ∙ sym (refused_first (read_causes text m) (scratch_causes text cells) (length text) (length text) (sym is ∙ e))

  module _ {n : ℕ} (yes' : a ≡ Ok n) where
    first : answer (read_causes text m) (length text) ≡ Ok n
    first = sym is ∙ yes'

    pub size_is : n ≡ length text
    size_is = let q : ◌≡◌ {A = Result ℕ Refusal} (Ok (length text)) (Ok n) = again (read_causes text m) (length text) (length text) first ∙ first in cc

    pub short : n ≤ 65535
    short = omega (arith, size_is, (read_of text m (length text) n first).short)

    pub refused_scratch : {k : ℕ} → k ≡ scratch_for n → cells < k → Err (ScratchTooShort k) ≡ answer (first_causes text m cells) (length text)
    refused_scratch {k} e l =
        let q : k ≡ scratch_for (length text) = omega (arith, size_is) in
        ap (λ (z : ℕ). Err (ScratchTooShort z)) q
        ∙ cause_yes (read_causes text m) (scratch_cause (length text) cells) (length text) (length text) first (lt-ltb cells (scratch_for (length text)) (omega arith))

    pub accepted_early : {k : ℕ} → k ≡ scratch_for n → k ≤ cells → Ok n ≡ answer (first_causes text m cells) (length text)
    accepted_early e l = cause_kept (read_causes text m) (scratch_cause (length text) cells) (length text) first (le-ltb cells (scratch_for (length text)) (omega (arith, size_is)))

-- ---- past them

pub passes : (text : List ℕ) (m : Option Words) (cells : ℕ) {a : Result ℕ Refusal} → a ≡ answer (first_causes text m cells) (length text) → {n : ℕ} → a ≡ Ok n → Passes text m cells
passes text m cells is yes' = record { accepted = sym (again (first_causes text m cells) (length text) 0 (sym is ∙ yes')) }

module _ {text : List ℕ} {m : Option Words} {cells : ℕ} (p : Passes text m cells) where
  none_due : None (first_causes text m cells)
  none_due = none_of (first_causes text m cells) 0 0 p.accepted

  pub at_most : length text ≤ 65535
  at_most = ltb-false 65535 (length text) none_due.0

  pub known : is_none m ≡ false
  known = none_due.1.1.0

  pub room : scratch_for (length text) ≤ cells
  room = ltb-false cells (scratch_for (length text)) none_due.1.1.1.0
