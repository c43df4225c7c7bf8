use Prim.Native.Nat.{◌*◌}
use native.Mathlib.Omega.{arith}
use mathlib.Core.Path.{refl, sym}
use lib.Seq.{length-take-le}
use Rattle.why_texts.proofs.Lines.{all_pairs}
use Rattle.why_texts.proofs.first_pairs.Goals as goal

pub returns-then-row-n : goal.returns-then-row-n
returns-then-row-n c = all_pairs c.args.row.now c.args.n c.if-row-n.true

pub overflow_mul-result : goal.overflow_mul-result
overflow_mul-result c = let b = c.well_formed in omega (arith, c.if-row-n.false)

pub slice_bounds-result-end : goal.slice_bounds-result-end
slice_bounds-result-end c = sym (length-take-le (2 * c.args.n) c.args.row.now (omega (arith, c.if-row-n.false)))

pub returns : goal.returns
returns c = refl
