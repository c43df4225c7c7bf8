use Rattle.std.proofs.Common.{arith}
use Rattle.sheet_bytes.proofs.Keeping.{kept_mid}
use Rattle.sheet_bytes.proofs.keep.Goals as goal

pub returns-clause-row_after : goal.returns-clause-row_after
returns-clause-row_after c =
    kept_mid c.args.row.now c.args.part.now _ c.args.used c.min-n.result _ (omega (arith, c.if-row-used.false))
    (omega (arith, c.min-n.ensures)) (omega (arith, c.min-n.ensures)) (λ l. omega (arith, c.min-n.ensures)) (omega arith) c.copy_from_slice.ensures.after
