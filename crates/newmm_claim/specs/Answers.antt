-- 02, ticket 12: the answer of the check of a claim, and what becomes of scratch.
use Rattle.std.specs.Prelude.{ℕ, ◌≡◌, List, length, Result, Ok, Err}
use Rattle.std.proofs.Math.Option.{Option}
use Rattle.refusal.specs.declared.Refusal.{Refusal}
use Rattle.refusal.specs.Answers.{Cause, answer}
use Rattle.trie_pool.specs.Meaning.{Words, meaning}
use Rattle.trie_check.specs.Refusals.{held}
use Rattle.newmm_rules.specs.Claims.{Verdict, right, wrong, verdict}
use Rattle.newmm_answers.specs.Answers.{given, first_causes, scratch_after}
use Rattle.newmm_claim.specs.declared.Verdict as declared
use Rattle.newmm_claim.specs.declared.Verdict.TheVariants.{Right, Wrong}

-- The answer is a verdict, unless the call is refused.
abbrev pub ClaimAnswer : Type 0
ClaimAnswer = Result declared.Verdict Refusal

abbrev pub verdict_told : Verdict → declared.Verdict
verdict_told right = Right
verdict_told (wrong k) = Wrong k

-- "No" is an accepted answer.
abbrev pub claim_told : Result ℕ Refusal → Verdict → ClaimAnswer
claim_told (Ok n) v = Ok (verdict_told v)
claim_told (Err r) v = Err r

-- Refusals: as cutting, without 6. `cells` is the number of scratch cells.
abbrev pub claim_causes : List ℕ → Option Words → ℕ → List Cause
claim_causes text pool cells = first_causes text pool cells

abbrev pub claim_answer : List ℕ → Option Words → ℕ → List ℕ → ClaimAnswer
claim_answer text pool cells claimed =
    claim_told (answer (claim_causes text pool cells) 0) (verdict (given (held pool) text) claimed)

-- What a call is given, each row as it was lent.
pub record Claim : Type 0 where
  pub text : List ℕ
  pub pool : List ℕ
  pub claimed : List ℕ
  pub scratch : List ℕ

-- The call with these arguments, in the order of the function's parameters.
abbrev pub claim : (text pool claimed scratch : List ℕ) → Claim
claim text pool claimed scratch = record { text = text; pool = pool; claimed = claimed; scratch = scratch }

-- The answer, and scratch afterwards: as cutting, without 6.
abbrev pub claim_answer_of : Claim → ClaimAnswer
claim_answer_of c = claim_answer c.text (meaning c.pool) (length c.scratch) c.claimed

abbrev pub claim_scratch_of : Claim → List ℕ
claim_scratch_of c = scratch_after c.text (meaning c.pool) c.scratch

-- THE CHECK OF A CLAIM: what it answers, and what it leaves in scratch.
abbrev pub Claims : Claim → ClaimAnswer → (scratch : List ℕ) → Type 0
Claims c answer scratch = (answer ≡ claim_answer_of c) × (scratch ≡ claim_scratch_of c)
