use Rattle.host_telling.proofs.Answers.{telling}
use Rattle.host_figures.proofs.Answers.{fed_none}
use Rattle.host_figures.proofs.feed_refused.Goals as goal

pub tell_only-requires : goal.tell_only-requires
tell_only-requires c = fed_none c.args.figures.now c.args.number c.feed_refused-refused.ensures.0

pub returns : goal.returns
returns c = (telling c.feed_refused-refused.ensures.0 c.tell_only.ensures, c.feed_refused-refused.ensures.1)
