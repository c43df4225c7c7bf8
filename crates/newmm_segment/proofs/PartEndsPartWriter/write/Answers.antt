use native.Mathlib.Omega.{arith}
use Rattle.trie_pool.specs.Words.{holds}
use Rattle.newmm_answers.proofs.Plain.{plain_right}
use Rattle.newmm_rules.proofs.Climbing.{few}
use Rattle.newmm_segment.proofs.Samples.{lent, written, fits, can_shift, shifted_is}
use Rattle.newmm_segment.proofs.PartEndsPartWriter.write.Goals as goal

pub one_cut-r-requires : goal.one_cut-r-requires
one_cut-r-requires c = lent c.requires.0 c.args.part.now (omega arith)

pub shift-requires : goal.shift-requires
shift-requires c =
    let w = written c.args.pool.now c.one_cut-r.ensures in
    let right = plain_right (holds c.args.pool.now) c.args.part.now in
    (fits w (omega (arith, few right, c.requires.0.room)), can_shift _ _ _ _ _ w right c.requires.1)

pub returns : goal.returns
returns c =
    let w = written c.args.pool.now c.one_cut-r.ensures in
    let right = plain_right (holds c.args.pool.now) c.args.part.now in
    shifted_is _ _ _ _ _ w right _ c.shift.ensures
