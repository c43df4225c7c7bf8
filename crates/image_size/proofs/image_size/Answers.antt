use native.Mathlib.Omega.{arith}
use Rattle.image_size.proofs.Sizing.{root_stands, image_is, image_most}
use Rattle.image_size.proofs.image_size.Goals as goal

pub size_from-requires : goal.size_from-requires
size_from-requires c = root_stands _ c.requires

pub overflow_add-result : goal.overflow_add-result
overflow_add-result c = omega (arith, image_most c.args.p.now c.requires _ c.size_from.ensures)

pub returns : goal.returns
returns c = image_is c.args.p.now c.requires _ c.size_from.ensures
