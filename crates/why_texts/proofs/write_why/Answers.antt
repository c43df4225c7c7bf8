use mathlib.Core.Path.{refl}
use Rattle.why_texts.proofs.Lines.{written_by, by_reply, by_line}
use Rattle.why_texts.proofs.write_why.Goals as goal

pub returns-in-Unknown : goal.returns-in-Unknown
returns-in-Unknown c = let both = written_by c.args.out.now (by_line c.args.text.now c.args.positions.now c.args.pairs.now c.in-Unknown.is refl) c.write_reply.ensures.value c.write_reply.ensures.out_after in record { value = both.0; out_after = both.1 }

pub returns-in-Report : goal.returns-in-Report
returns-in-Report c = let both = written_by c.args.out.now (by_line c.args.text.now c.args.positions.now c.args.pairs.now c.in-Report.is refl) c.write_reply-in-Report.ensures.value c.write_reply-in-Report.ensures.out_after in record { value = both.0; out_after = both.1 }

pub returns-in-Ends : goal.returns-in-Ends
returns-in-Ends c = let both = written_by c.args.out.now (by_reply c.args.text.now c.args.positions.now c.args.pairs.now c.in-Ends.is) c.write_cut.ensures.value c.write_cut.ensures.out_after in record { value = both.0; out_after = both.1 }

pub returns-in-Refused : goal.returns-in-Refused
returns-in-Refused c = let both = written_by c.args.out.now (by_line c.args.text.now c.args.positions.now c.args.pairs.now c.in-Refused.is refl) c.write_reply-in-Refused.ensures.value c.write_reply-in-Refused.ensures.out_after in record { value = both.0; out_after = both.1 }
