-- Checking a claim, over runs of the proved functions `newmm_claim::check_claim` and `newmm::cut`
-- themselves.
use Rattle.std.specs.Prelude.{ℕ, ◌≤◌, ◌≡◌, List, length, take, Ok}
use Rattle.std.proofs.Math.Option.{some}
use contract.Lifetimes.{Lfts}
use borrow.Fn.Kinds.{Dens, res_t, ended_of}
use denote.Triple.Clauses.{AtExit}
use Rattle.newmm_claim.proofs.check_claim.Kinds as claim_kinds
use Rattle.newmm_claim.proofs.check_claim.Reads as claim_contract
use Rattle.trie_pool.specs.Meaning.{Words, meaning}
use Rattle.newmm_rules.specs.Claims.{Verdict}
use Rattle.newmm_rules.specs.declared.Mode.TheVariants.{Plain}
use Rattle.newmm_answers.specs.Answers.{accepted_with, scratch_for}
use Rattle.newmm_claim.specs.declared.Verdict.TheVariants.{Right}
use Rattle.newmm_claim.specs.Answers.{Claim, verdict_told}
use Rattle.theorems_one_answer.specs.Runs.{Run, call_of, out_left}

-- A run of `check_claim`, as `Run` is one of `cut`.
pub record ClaimRun : Type 0 where
  pub lifetimes : Lfts 4
  pub arguments : Dens lifetimes claim_kinds.ps
  pub answer : (res_t claim_kinds.r lifetimes).Denot
  pub rows : AtExit (ended_of 4 claim_kinds.ps claim_kinds.r) lifetimes
  pub promise : claim_contract.Post lifetimes arguments answer rows

-- what it was given, by the places of its arguments
abbrev pub claim_of : ClaimRun → Claim
claim_of r =
    record {
      text = r.arguments.0.now;
      pool = r.arguments.1.0.now;
      claimed = r.arguments.1.1.0.now;
      scratch = r.arguments.1.1.1.0.now;
    }

-- Every plain answer of ours passes: what a run of the plain cut wrote, a run of the check finds
-- right, with the same text, a pool that holds the same words and 9n+128 cells of scratch.
abbrev pub OursPassOfRuns : Type 0
OursPassOfRuns =
    (a : Run) (c : ClaimRun) (v w : Words) (n edges : ℕ)
    → meaning (call_of a).pool ≡ some v
    → meaning (claim_of c).pool ≡ some w
    → ((x : List ℕ) → v x ≡ w x)
    → (call_of a).mode ≡ Plain
    → a.answer ≡ accepted_with n edges
    → (claim_of c).text ≡ (call_of a).text
    → (claim_of c).claimed ≡ take n (out_left a)
    → scratch_for (length (claim_of c).text) ≤ length (claim_of c).scratch
    → c.answer ≡ Ok Right

-- Equal words, equal verdict.
abbrev pub SameVerdictOfRuns : Type 0
SameVerdictOfRuns =
    (a b : ClaimRun) (v w : Words)
    → meaning (claim_of a).pool ≡ some v
    → meaning (claim_of b).pool ≡ some w
    → ((x : List ℕ) → v x ≡ w x)
    → (claim_of a).text ≡ (claim_of b).text
    → (claim_of a).claimed ≡ (claim_of b).claimed
    → (u : Verdict)
    → a.answer ≡ Ok (verdict_told u)
    → scratch_for (length (claim_of b).text) ≤ length (claim_of b).scratch
    → b.answer ≡ Ok (verdict_told u)
