use native.Mathlib.Omega.{arith}
use mathlib.Core.Path.{refl}
use lib.ListN.{length}
use Rattle.utf8.specs.Decoding.{room_in}
use Rattle.sheet_replies.specs.Replies.{reply_to, PoolAfter, decoded_after, ends_after, scratch_after}
use Rattle.sheet_replies.proofs.Asking.{asked_some, not_add, not_remove, not_cut}
use Rattle.sheet_replies.proofs.Answering.{reply_by, rows_by}
use Rattle.sheet_replies.proofs.answer_line.Goals as goal

pub slice_bounds-add-count : goal.slice_bounds-add-count
slice_bounds-add-count c =
    let h = asked_some c.args.line.now c.asks-asked.ensures c.in-Add.is not_add in
    omega arith

pub slice_bounds-add-start : goal.slice_bounds-add-start
slice_bounds-add-start c =
    let h = asked_some c.args.line.now c.asks-asked.ensures c.in-Add.is not_add in
    omega arith

pub slice_bounds-remove-count : goal.slice_bounds-remove-count
slice_bounds-remove-count c =
    let h = asked_some c.args.line.now c.asks-asked.ensures c.in-Remove.is not_remove in
    omega arith

pub slice_bounds-remove-start : goal.slice_bounds-remove-start
slice_bounds-remove-start c =
    let h = asked_some c.args.line.now c.asks-asked.ensures c.in-Remove.is not_remove in
    omega arith

pub slice_bounds-cut-count : goal.slice_bounds-cut-count
slice_bounds-cut-count c =
    let h = asked_some c.args.line.now c.asks-asked.ensures c.in-Cut.is (not_cut _) in
    omega arith

pub slice_bounds-cut-start : goal.slice_bounds-cut-start
slice_bounds-cut-start c =
    let h = asked_some c.args.line.now c.asks-asked.ensures c.in-Cut.is (not_cut _) in
    omega arith

pub returns-in-Nothing : goal.returns-in-Nothing
unfolding reply_to PoolAfter decoded_after ends_after scratch_after
returns-in-Nothing c =
    record {
      value = reply_by c.args.line.now c.asks-asked.ensures c.in-Nothing.is c.args.pool.now
          (room_in c.args.scalars.now c.args.positions.now) (length c.args.scratch.now)
          (length c.args.ends.now) refl;
      rows_after = rows_by c.args.line.now c.asks-asked.ensures c.in-Nothing.is
          (record { pool_is = refl; scalars_are = refl; positions_are = refl; ends_are = refl; scratch_is = refl });
    }

pub returns-in-Add : goal.returns-in-Add
unfolding reply_to PoolAfter decoded_after ends_after scratch_after
returns-in-Add c =
    record {
      value = reply_by c.args.line.now c.asks-asked.ensures c.in-Add.is c.args.pool.now
          (room_in c.args.scalars.now c.args.positions.now) (length c.args.scratch.now)
          (length c.args.ends.now) c.add.ensures.value;
      rows_after = rows_by c.args.line.now c.asks-asked.ensures
          c.in-Add.is
          (record {
            pool_is = c.add.ensures.after;
            scalars_are = c.add.ensures.scalars_after;
            positions_are =
                c.add.ensures.positions_after;
            ends_are = refl;
            scratch_is = refl;
          });
    }

pub returns-in-Remove : goal.returns-in-Remove
unfolding reply_to PoolAfter decoded_after ends_after scratch_after
returns-in-Remove c =
    record {
      value = reply_by c.args.line.now c.asks-asked.ensures c.in-Remove.is c.args.pool.now
          (room_in c.args.scalars.now c.args.positions.now) (length c.args.scratch.now)
          (length c.args.ends.now) c.remove.ensures.value;
      rows_after = rows_by c.args.line.now c.asks-asked.ensures
          c.in-Remove.is
          (record {
            pool_is = c.remove.ensures.after;
            scalars_are = c.remove.ensures.scalars_after;
            positions_are =
                c.remove.ensures.positions_after;
            ends_are = refl;
            scratch_is = refl;
          });
    }

pub returns-in-Cut : goal.returns-in-Cut
unfolding reply_to PoolAfter decoded_after ends_after scratch_after
returns-in-Cut c =
    record {
      value = reply_by c.args.line.now c.asks-asked.ensures c.in-Cut.is c.args.pool.now
          (room_in c.args.scalars.now c.args.positions.now) (length c.args.scratch.now)
          (length c.args.ends.now) c.cut.ensures.value;
      rows_after = rows_by c.args.line.now c.asks-asked.ensures
          c.in-Cut.is
          (record {
            pool_is = refl;
            scalars_are = c.cut.ensures.scalars_after;
            positions_are =
                c.cut.ensures.positions_after;
            ends_are = c.cut.ensures.ends_after;
            scratch_is =
                c.cut.ensures.scratch_after;
          });
    }
