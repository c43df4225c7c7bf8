-- What the check of a claim answers and leaves. Assumes nothing.
use Rattle.std.specs.Prelude.{Result, Ok, Err}
use Prim.Native.Nat.{ℕ, ◌+◌, ◌*◌, ◌/◌, ◌<◌, min}
use native.Mathlib.Omega.{arith}
use mathlib.Core.Path.{◌≡◌, sym, ◌∙◌, ap}
use mathlib.Core.List.{List, ◌++◌, append-nil}
use mathlib.Core.Option.{Option}
use lib.ListN.{length, take, drop, replicate}
use lib.Seq.{take_at, drop-length}
use Rattle.refusal.specs.declared.Refusal.{Refusal}
use Rattle.refusal.specs.Answers.{answer}
use Rattle.refusal.proofs.Causes.{still}
use Rattle.tcc.specs.Flags.{end_flags}
use Rattle.tcc.proofs.Marks.{ends_long}
use Rattle.trie_pool.specs.Words.{holds}
use Rattle.trie_pool.specs.Meaning.{Words, meaning}
use Rattle.trie_check.specs.Refusals.{held}
use Rattle.trie_check.proofs.Parts.{known_is, readable, held_part}
use Rattle.newmm_rules.specs.Claims.{verdict}
use Rattle.newmm_answers.specs.Answers.{given, first_causes, cleared}
use Rattle.newmm_answers.specs.inner.Passing.{Passes}
use Rattle.newmm_answers.proofs.Checks.{known, room}
use Rattle.newmm_word_step.specs.inner.Walks.{given_by}
use Rattle.newmm_claim.specs.declared.Verdict as declared
use Rattle.newmm_claim.specs.Answers.{ClaimAnswer, verdict_told, claim_told, claim, Claims}
use Rattle.newmm_claim.specs.inner.Judging.{Judges}

-- ---- a call that passes

-- scratch has a cell for each position of the text
pub flags_fit : {text : List ℕ} {m : Option Words} {cells : ℕ} → Passes text m cells → length text < cells
flags_fit p = omega (arith, room p)

module _ (text pool : List ℕ) {cells n : ℕ} (p : Passes text (meaning pool) cells) (nodes : n ≡ min (length pool / 8) 1048576) where
  pub judges : (row old : List ℕ) (m : ℕ) → m ≡ length text + 1 → row ≡ end_flags text ++ drop (length text + 1) old → Judges text (take (8 * n) pool) (take m row)
  judges row old m i is =
      record {
        root_is = readable pool n nodes (known_is pool (known p));
        flags_are = ap (take m) is ∙ take_at (end_flags text) (drop (length text + 1) old) m (ends_long text ∙ sym i);
      }

module _ (text pool claimed scratch : List ℕ) {n : ℕ} (p : Passes text (meaning pool) (length scratch)) (nodes : n ≡ min (length pool / 8) 1048576) where
  pub judged : {r : declared.Verdict} → r ≡ verdict_told (verdict (given_by text (take (8 * n) pool)) claimed)
      → {row' : List ℕ} → row' ≡ replicate {A = ℕ} (length scratch) 0 → Claims (claim text pool claimed scratch) (Ok r) row'
  judged is e = (
    ap Ok (is ∙ ap (λ (f : Words). verdict_told (verdict (given f text) claimed)) (sym (held_part pool n nodes (known_is pool (known p)))))
        ∙ sym (ap (λ (x : Result ℕ Refusal). claim_told x (verdict (given (held (meaning pool)) text) claimed)) p.accepted),
    e ∙ sym (ap (λ (x : Result ℕ Refusal). cleared x scratch) p.accepted),
  )

-- ---- a call that does not

pub early_claims : (text pool claimed scratch : List ℕ) {r : Refusal} → Err r ≡ answer (first_causes text (meaning pool) (length scratch)) (length text) → {a : ClaimAnswer} → a ≡ Err r
    → Claims (claim text pool claimed scratch) a scratch
early_claims text pool claimed scratch {r} is handed =
    let refused : answer (first_causes text (meaning pool) (length scratch)) 0 ≡ Err r =
    sym (still (first_causes text (meaning pool) (length scratch)) (length text) 0 (sym is)) in (
      handed ∙ sym (ap (λ (x : Result ℕ Refusal). claim_told x (verdict (given (held (meaning pool)) text) claimed)) refused),
      sym (ap (λ (x : Result ℕ Refusal). cleared x scratch) refused),
    )
