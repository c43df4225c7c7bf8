use Prim.Native.Nat.{ℕ}
use mathlib.Core.Path.{◌≡◌}
use lib.ListN.{length, replicate}
use Rattle.std.proofs.Common.{rules}
use Rattle.newmm.proofs.Calls.{still_sees, now_blank, cleared_cuts}
use Rattle.newmm.proofs.cut_checked.Goals as goal

pub cut_ready-requires : goal.cut_ready-requires
cut_ready-requires c =
    let e : c.fill.new.self ≡ replicate {A = ℕ} (length c.args.scratch.now) 0 = search rules in
    (still_sees c.args.scratch.now e c.requires, now_blank c.args.scratch.now e)

pub returns : goal.returns
returns c =
    cleared_cuts c.args.scratch.now (search rules)
    c.requires c.args.out.now c.args.mode c.cut_ready.ensures
