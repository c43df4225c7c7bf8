use Rattle.std.proofs.Common.{arith}
use Rattle.std.proofs.lemmas.Grind.{common_steps}
use Rattle.newmm_tell.proofs.Rows.{cut_part, told_fit, all_told}
use Rattle.newmm_tell.proofs.tell_strips.Goals as goal

pub tell-requires : goal.tell-requires
tell-requires c = (cut_part c.requires.0 c.cut_marked-r.ensures, c.requires.1)

pub slice_bounds-fill-start : goal.slice_bounds-fill-start
slice_bounds-fill-start c = told_fit c.requires.0 c.cut_marked-r.ensures c.args.start c.tell.ensures

pub returns : goal.returns
returns c = all_told c.requires.0 c.cut_marked-r.ensures c.args.start c.tell.ensures (grind (arith, common_steps))
