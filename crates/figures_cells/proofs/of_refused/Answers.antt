use Rattle.figures_cells.proofs.Counting.{refused_is}
use Rattle.figures_cells.proofs.of_refused.Goals as goal

pub returns : goal.returns
returns c = refused_is c.args.number c.requires.0 c.requires.1
