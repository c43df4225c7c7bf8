use Rattle.sheet_input.proofs.Feeding.{told_size, told_is}
use Rattle.sheet_input.proofs.told.Goals as goal

pub returns : goal.returns
returns c =
    record {
      value = told_size c.answer_line-reply.ensures.value c.answer_line-reply.ensures.rows_after.ends_are c.args.out.now
          c.write_reply.ensures.value;
      out_after = told_is c.answer_line-reply.ensures.value c.answer_line-reply.ensures.rows_after.ends_are c.args.out.now
          c.write_reply.ensures.out_after;
      rows_after = c.answer_line-reply.ensures.rows_after;
    }
