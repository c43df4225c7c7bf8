-- What a host is told of a claim, and what becomes of the row that it lends: the answer and the row
-- of the library function, as its contract gives them.
use Rattle.std.specs.Prelude.{ℕ, ◌≡◌, List, Ok, Err}
use Rattle.refusal.specs.Numbers.{number_of, detail_of}
use Rattle.newmm_claim.specs.declared.Verdict.TheVariants.{Right, Wrong}
use Rattle.newmm_claim.specs.Answers.{Claim, ClaimAnswer, claim_answer_of, claim_scratch_of}

-- The number that the call returns, and the numbers that it sets.
pub record ToldClaim : Type 0 where
  pub number : ℕ
  pub right : ℕ
  pub token : ℕ
  pub detail : ℕ

abbrev pub told_claim : (number right token detail : ℕ) → ToldClaim
told_claim number right token detail = record { number = number; right = right; token = token; detail = detail }

-- Right is 1, and token 0; or right is 0, and token the first that is wrong. A refused call has
-- neither.
abbrev pub tells_claim : ClaimAnswer → ToldClaim
tells_claim (Ok Right) = told_claim 0 1 0 0
tells_claim (Ok (Wrong k)) = told_claim 0 0 k 0
tells_claim (Err r) = told_claim (number_of r) 0 0 (detail_of r)

-- THE CHECK OF A CLAIM: what the host is told, and what stands in scratch.
abbrev pub ClaimTold : Claim → ToldClaim → (scratch : List ℕ) → Type 0
ClaimTold c t scratch = (t ≡ tells_claim (claim_answer_of c)) × (scratch ≡ claim_scratch_of c)
