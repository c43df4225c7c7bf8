use Rattle.break_map_cells.proofs.Reading.{bits_are}
use Rattle.break_map_cells.proofs.bits_from.Goals as goal

pub returns : goal.returns
returns c = bits_are c.args.map.now (λ i h. (c.type_inv.map i).fits) c.args.p c.requires
