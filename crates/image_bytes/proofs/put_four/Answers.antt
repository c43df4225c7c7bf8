use native.Mathlib.Omega.{arith}
use Rattle.image_bytes.proofs.Laying.{laid_twice}
use Rattle.image_bytes.proofs.put_four.Goals as goal

pub put_two-requires : goal.put_two-requires
put_two-requires c = omega (arith, c.requires)

pub put_two-requires-2 : goal.put_two-requires-2
put_two-requires-2 c = omega (arith, c.requires, c.put_two.auto.row)

pub returns : goal.returns
returns c =
    laid_twice c.args.row.now c.args.at c.args.v c.requires c.put_two.ensures
    c.put_two-2.ensures
