use native.Mathlib.Omega.{arith}
use mathlib.Core.Path.{refl}
use lib.ListN.{length-set}
use Rattle.newmm_bfs.proofs.Strips.{up_old, up_new}
use Rattle.newmm_bfs.proofs.queue_up.Goals as goal

pub returns-then-row-at-ne0 : goal.returns-then-row-at-ne0
returns-then-row-at-ne0 c = let both = up_old c.args.row.now c.args.m c.args.tail c.args.v c.args.x c.if-row-at-ne0.true in record { value = both.0; row_after = both.1 }

pub bounds-row-m : goal.bounds-row-m
bounds-row-m c = simp length-set (omega arith)

pub returns : goal.returns
returns c =
    let both = up_new c.args.row.now c.args.m c.args.tail c.args.v c.args.x _ _ c.if-row-at-ne0.false
    refl refl in record { value = both.0; row_after = both.1 }
