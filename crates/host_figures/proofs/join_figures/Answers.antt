use Rattle.host_telling.proofs.Answers.{telling}
use Rattle.host_figures.proofs.Answers.{joined_none}
use Rattle.host_figures.proofs.join_figures.Goals as goal

pub tell_only-requires : goal.tell_only-requires
tell_only-requires c = joined_none c.args.figures.now c.args.more.now c.join-joined.ensures.0

pub returns : goal.returns
returns c = (telling c.join-joined.ensures.0 c.tell_only.ensures, c.join-joined.ensures.1)
