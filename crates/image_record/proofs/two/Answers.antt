use Rattle.image_record.proofs.Numbers.{two_is}
use Rattle.image_record.proofs.two.Goals as goal

pub returns-clause-value : goal.returns-clause-value
returns-clause-value c = two_is c.args.s.now c.args.at _ _ c.requires c.from.ensures c.from-2.ensures
