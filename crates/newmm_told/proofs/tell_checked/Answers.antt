use native.Mathlib.Omega.{arith}
use mathlib.Core.Path.{◌≡◌}
use lib.ListN.{length, replicate}
use Rattle.std.proofs.lemmas.Grind.{common_steps}
use Rattle.newmm.proofs.Calls.{still_sees, now_blank}
use Rattle.newmm_told.proofs.Calls.{cleared_tells}
use Rattle.newmm_told.proofs.tell_checked.Goals as goal

pub tell_ready-requires : goal.tell_ready-requires
tell_ready-requires c =
    let e : c.fill.new.self ≡ replicate (length c.args.scratch.now) 0 = grind (arith, common_steps) in
    (still_sees c.args.scratch.now e c.requires, now_blank c.args.scratch.now e)

pub returns : goal.returns
returns c =
    let e : c.fill.new.self ≡ replicate (length c.args.scratch.now) 0 = grind (arith, common_steps) in
    cleared_tells c.args.scratch.now e c.requires c.args.room c.args.mode c.tell_ready.ensures
