-- The check of a claim: no second answer fits, and what holds of its runs. Assumes nothing.
use Prim.Native.Nat.{ℕ}
use mathlib.Core.Path.{sym, ◌∙◌, ap}
use mathlib.Core.List.{List}
use lib.ListN.{take}
use Rattle.newmm_claim.proofs.check_claim.Kinds as claim_kinds
use Rattle.newmm_claim.proofs.check_claim.Reads as claim_contract
use Rattle.newmm_claim.specs.Answers.{ClaimAnswer}
use Rattle.theorems_demands.proofs.Claims.{answers_pass, same_words_same_verdict}
use Rattle.theorems_one_answer.specs.OneAnswer.{OneAnswer}
use Rattle.theorems_one_answer.specs.Runs.{call_of}
use Rattle.theorems_one_answer.specs.ClaimRuns.{claim_of, OursPassOfRuns, SameVerdictOfRuns}
use Rattle.theorems_one_answer.proofs.Shapes.{answer, both}
use Rattle.theorems_one_answer.proofs.Demand3.{answered}

-- the answer and the scratch
pub check_claim_one : OneAnswer {A = ClaimAnswer × List ℕ} 4 claim_kinds.ps claim_kinds.r claim_contract.Post (λ κs x s. let scratch = s.1.1.1.0.now in (x, scratch))
check_claim_one κs a x y s t p q = both (answer p.0 q.0) (answer p.1 q.1)

pub ours_pass_of_runs : OursPassOfRuns
ours_pass_of_runs a c v w n edges pa pc same plain h text claimed room =
    let p = answered a in
    c.promise.0 ∙ answers_pass (call_of a) (claim_of c) v w n edges pa pc same plain (sym p.0 ∙ h) text (claimed ∙ ap (take n) p.1) room

pub same_verdict_of_runs : SameVerdictOfRuns
same_verdict_of_runs a b v w pa pb same text claimed u h room =
    b.promise.0 ∙ same_words_same_verdict (claim_of a) (claim_of b) v w pa pb same text claimed u (sym a.promise.0 ∙ h) room
