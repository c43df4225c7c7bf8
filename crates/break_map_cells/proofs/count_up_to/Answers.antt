use native.Mathlib.Omega.{arith}
use mathlib.Core.Path.{◌≡◌, ◌∙◌, ap}
use lib.Count.{ones}
use Prim.Native.Nat.{◌/◌}
use lib.ListN.{length, take}
use lib.Seq.{length-take-le}
use Rattle.std.proofs.lemmas.List.{get_or-take}
use Rattle.break_map_cells.proofs.Reading.{counted_none, counted_more, counted_last}
use Rattle.break_map_cells.proofs.count_up_to.Goals as goal

pub loop-bits-init : goal.loop-bits-init
loop-bits-init c = counted_none _

pub loop-bits-preserved : goal.loop-bits-preserved
loop-bits-preserved c =
    let whole : length (take (c.args.position / 64) c.args.map.now) ≡ c.args.position / 64 = length-take-le _ _ (omega arith) in
    counted_more (λ i h. (c.type_inv.map i).fits) c.loop-bits.invariant (omega arith)
    (c.ones_of-count.ensures.0 ∙ ap ones (get_or-take (c.args.position / 64) c.args.map.now c.loop-bits.bits-index 0 (omega arith)))

pub returns : goal.returns
returns c =
    let whole : length (take (c.args.position / 64) c.args.map.now) ≡ c.args.position / 64 = length-take-le _ _ (omega arith) in
    counted_last (λ i h. (c.type_inv.map i).fits) c.loop-bits.invariant c.args.position c.requires.0 (omega arith) c.ones_of.ensures.0
