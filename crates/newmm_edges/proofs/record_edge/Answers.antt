use native.Mathlib.Omega.{arith}
use mathlib.Core.Path.{refl}
use lib.ListN.{length-set}
use Rattle.newmm_edges.proofs.Looping.{rec_new, rec_old, rec_row}
use Rattle.newmm_edges.proofs.record_edge.Goals as goal

pub bounds-row-m-2 : goal.bounds-row-m-2
bounds-row-m-2 c = simp length-set (omega arith)

pub bounds-row-at-2 : goal.bounds-row-at-2
bounds-row-at-2 c = simp length-set (omega arith)

pub returns-then-known-eq0 : goal.returns-then-known-eq0
returns-then-known-eq0 c =
    record {
      value = rec_new c.args.row.now c.args.m c.args.e c.args.p c.if-known-eq0.true;
      row_after = rec_row
          c.args.row.now c.args.m c.args.e c.args.p c.args.b c.args.first _ _
          refl refl;
    }

pub returns : goal.returns
returns c =
    record {
      value = rec_old c.args.row.now c.args.m c.args.e c.args.p c.if-known-eq0.false;
      row_after = rec_row
          c.args.row.now c.args.m c.args.e c.args.p c.args.b c.args.first _ _
          refl refl;
    }
