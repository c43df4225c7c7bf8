use Rattle.std.proofs.Common.{arith}
use Rattle.std.proofs.lemmas.Grind.{common_steps}
use Rattle.newmm_one_cut.proofs.Bounds.{done}
use Rattle.newmm_one_cut.proofs.cut_strips.Goals as goal

pub returns : goal.returns
returns c = done c.requires c.cut_marked-r.ensures (grind (arith, common_steps))
