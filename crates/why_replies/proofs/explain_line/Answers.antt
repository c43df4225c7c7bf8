use Rattle.why_replies.proofs.Answering.{explains}
use Rattle.why_replies.proofs.explain_line.Goals as goal

pub returns : goal.returns
returns c = let p = explains c.reply_to-reply.ensures.rows_after c.reply_to-reply.ensures.value c.text_in.ensures c.args.out.now (c.write_why.ensures.value, c.write_why.ensures.out_after) in record { value = p.0; out_after = p.1; rows_after = c.reply_to-reply.ensures.rows_after }
