use Rattle.host_figures.proofs.Answers.{only}
use Rattle.host_figures.proofs.tell_only.Goals as goal

pub returns : goal.returns
returns c = only c.args.a c.tell.result c.tell.new.count c.tell.new.detail c.tell.ensures c.requires
