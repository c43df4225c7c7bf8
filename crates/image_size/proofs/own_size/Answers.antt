use Rattle.image_size.proofs.Sizing.{own_zero, own_more}
use Rattle.image_size.proofs.own_size.Goals as goal

pub returns-then-mark-eq0 : goal.returns-then-mark-eq0
returns-then-mark-eq0 c = own_zero c.args.mark c.args.bytes c.if-mark-eq0.true

pub returns : goal.returns
returns c = own_more c.args.mark c.args.bytes c.if-mark-eq0.false
