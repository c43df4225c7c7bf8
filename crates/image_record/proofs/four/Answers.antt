use Rattle.image_record.proofs.Numbers.{four_is}
use Rattle.image_record.proofs.four.Goals as goal

pub returns-clause-value : goal.returns-clause-value
returns-clause-value c = four_is c.args.s.now c.args.at _ _ c.requires c.two.ensures.value c.two-2.ensures.value
