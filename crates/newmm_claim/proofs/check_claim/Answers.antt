use lib.ListN.{length}
use Rattle.refusal.proofs.Causes.{handed_on}
use Rattle.trie_pool.specs.Meaning.{meaning}
use Rattle.newmm_answers.proofs.Checks.{passes}
use Rattle.newmm_claim.proofs.Answers.{early_claims}
use Rattle.newmm_claim.proofs.check_claim.Goals as goal

pub claim_checked-requires : goal.claim_checked-requires
claim_checked-requires c =
    passes c.args.text.now (meaning c.args.pool.now) (length c.args.scratch.now) c.check_cut.ensures
    c.in_ok-check_cut.was

pub returns-in_err-check_cut : goal.returns-in_err-check_cut
returns-in_err-check_cut c =
    early_claims c.args.text.now c.args.pool.now c.args.claimed.now c.args.scratch.now
    c.in_err-check_cut.ensures (handed_on c.from_residual.ensures.1)
