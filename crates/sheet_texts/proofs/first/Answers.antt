use mathlib.Core.Path.{sym}
use lib.Seq.{take_all, length-take-le}
use native.Mathlib.Omega.{arith}
use Rattle.sheet_texts.proofs.first.Goals as goal

pub slice_bounds-result-end : goal.slice_bounds-result-end
slice_bounds-result-end c = sym (length-take-le c.args.n c.args.row.now (omega (arith, c.if-n-row.true)))

pub returns : goal.returns
returns c = sym (take_all c.args.n c.args.row.now c.if-n-row.false)
