use lib.ListN.{length, take}
use Prim.Native.Nat.{◌*◌}
use Rattle.trie_pool.specs.Meaning.{meaning}
use Rattle.newmm_answers.specs.inner.Passing.{Passes}
use Rattle.newmm_answers.proofs.Checks.{passes, known}
use Rattle.newmm_answers.proofs.Views.{Viewed, plain_view, sees, by_view}
use Rattle.newmm.proofs.cut.Goals as goal

pub cut_checked-requires : goal.cut_checked-requires
cut_checked-requires c =
    let passed : Passes c.args.text.now (meaning c.args.pool.now) (length c.args.scratch.now) = passes c.args.text.now _ _ c.check_cut.ensures c.in_ok-check_cut.was in
    let viewed : Viewed (meaning c.args.pool.now) (take (8 * c.capacity-cells.result) c.args.pool.now) = plain_view _ _ c.capacity-cells.ensures (known (passed)) in
    sees (viewed) (passed)

pub returns : goal.returns
returns c =
    let passed : Passes c.args.text.now (meaning c.args.pool.now) (length c.args.scratch.now) = passes c.args.text.now _ _ c.check_cut.ensures c.in_ok-check_cut.was in
    let viewed : Viewed (meaning c.args.pool.now) (take (8 * c.capacity-cells.result) c.args.pool.now) = plain_view _ _ c.capacity-cells.ensures (known (passed)) in
    by_view (viewed) c.args.text.now c.args.out.now c.args.scratch.now c.args.mode
    c.cut_checked.ensures
