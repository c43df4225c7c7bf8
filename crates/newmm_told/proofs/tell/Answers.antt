use Prim.Native.Nat.{◌*◌}
use mathlib.Core.Path.{sym}
use lib.ListN.{length, take}
use Rattle.trie_pool.specs.Meaning.{meaning}
use Rattle.trie_check.proofs.Parts.{long}
use Rattle.newmm_answers.specs.inner.Passing.{Passes}
use Rattle.newmm_answers.proofs.Checks.{passes, known}
use Rattle.newmm_answers.proofs.Views.{Viewed, plain_view, sees}
use Rattle.refusal.proofs.Causes.{handed_on}
use Rattle.newmm_told.proofs.Calls.{early_tells, told_by_view}
use Rattle.newmm_told.proofs.tell.Goals as goal

pub slice_bounds-tell_checked-end : goal.slice_bounds-tell_checked-end
slice_bounds-tell_checked-end c = sym (long c.args.pool.now c.capacity-cells.result c.capacity-cells.ensures)

pub tell_checked-requires : goal.tell_checked-requires
tell_checked-requires c =
    let passed : Passes c.args.text.now (meaning c.args.pool.now) (length c.args.scratch.now) = passes c.args.text.now _ _ c.check_cut.ensures c.in_ok-check_cut.was in
    let viewed : Viewed (meaning c.args.pool.now) (take (8 * c.capacity-cells.result) c.args.pool.now) = plain_view _ _ c.capacity-cells.ensures (known passed) in
    sees viewed passed

pub returns-in_err-check_cut : goal.returns-in_err-check_cut
returns-in_err-check_cut c =
    early_tells c.args.mode c.args.text.now (meaning c.args.pool.now) c.args.scratch.now
    c.args.room c.in_err-check_cut.ensures (handed_on c.from_residual.ensures.1)

pub returns : goal.returns
returns c =
    let passed : Passes c.args.text.now (meaning c.args.pool.now) (length c.args.scratch.now) = passes c.args.text.now _ _ c.check_cut.ensures c.in_ok-check_cut.was in
    let viewed : Viewed (meaning c.args.pool.now) (take (8 * c.capacity-cells.result) c.args.pool.now) = plain_view _ _ c.capacity-cells.ensures (known passed) in
    told_by_view viewed c.args.text.now c.args.scratch.now c.args.room c.args.mode
    c.tell_checked.ensures
