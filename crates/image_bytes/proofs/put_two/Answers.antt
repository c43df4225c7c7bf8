use native.Mathlib.Omega.{arith}
use lib.ListN.{length-set}
use Rattle.image_rules.specs.Records.{le}
use Rattle.image_bytes.proofs.Laying.{laid_2}
use Rattle.image_bytes.proofs.put_two.Goals as goal

pub bounds-row-at-2 : goal.bounds-row-at-2
bounds-row-at-2 c = simp length-set (omega arith)

pub returns : goal.returns
unfolding le
returns c = laid_2 c.args.row.now c.args.at _ _ c.requires
