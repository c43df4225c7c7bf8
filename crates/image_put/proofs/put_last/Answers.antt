use native.Mathlib.Omega.{arith}
use Rattle.image_put.proofs.Records.{last_put}
use Rattle.image_put.proofs.put_last.Goals as goal

pub put_four-requires : goal.put_four-requires
put_four-requires c = omega (arith, c.requires)

pub put_two-requires : goal.put_two-requires
put_two-requires c = omega (arith, c.requires, c.put_four.auto.row)

pub put_four-requires-2 : goal.put_four-requires-2
put_four-requires-2 c = omega (arith, c.requires, c.put_four.auto.row, c.put_two.auto.row)

pub returns : goal.returns
returns c =
    last_put c.args.row.now c.args.at c.args.n c.put_four.ensures c.put_two.ensures
    c.put_four-2.ensures c.requires
