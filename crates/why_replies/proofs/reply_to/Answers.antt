use Prim.Native.Nat.{◌/◌}
use mathlib.Core.Path.{refl}
use lib.ListN.{length}
use Rattle.utf8.specs.Decoding.{room_in}
use Rattle.sheet_replies.specs.Replies.{reply_to, PoolAfter, decoded_after, scratch_after}
use Rattle.why_replies.specs.Replies.{pairs_after}
use Rattle.why_replies.proofs.Answering.{reply_other, rows_other, reply_cut, rows_cut}
use Rattle.why_replies.proofs.reply_to.Goals as goal

pub returns-in-None : goal.returns-in-None
returns-in-None c = record { value = reply_other c.args.line.now c.cutting_in-cutting.ensures c.in-None.is c.args.pool.now (room_in c.args.scalars.now c.args.positions.now) (length c.args.scratch.now) (length c.args.pairs.now) (length c.args.pairs.now / 2) c.answer_line.ensures.value; rows_after = rows_other c.args.line.now c.cutting_in-cutting.ensures c.in-None.is c.answer_line.ensures.rows_after }

pub returns-in-Some : goal.returns-in-Some
unfolding reply_to PoolAfter decoded_after pairs_after scratch_after
returns-in-Some c = record { value = reply_cut c.args.line.now c.cutting_in-cutting.ensures c.in-Some.is c.text_in.ensures c.args.pool.now (room_in c.args.scalars.now c.args.positions.now) (length c.args.scratch.now) (length c.args.pairs.now / 2) c.cut.ensures.value; rows_after = rows_cut c.args.line.now c.cutting_in-cutting.ensures c.in-Some.is c.text_in.ensures (record { pool_is = refl; scalars_are = c.cut.ensures.scalars_after; positions_are = c.cut.ensures.positions_after; pairs_are = c.cut.ensures.pairs_after; scratch_is = c.cut.ensures.scratch_after }) }
