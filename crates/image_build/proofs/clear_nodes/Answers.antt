use native.Mathlib.Omega.{arith}
use lib.ListN.{length-take, length-drop}
use Rattle.image_build.proofs.Clearing.{clear_turn}
use Rattle.image_build.proofs.clear_nodes.Goals as goal

pub loop-i-preserved : goal.loop-i-preserved
loop-i-preserved c = clear_turn c.loop-i.invariant c.requires c.loop-i-test.true (omega arith) (c.fill.ensures.after (λ y h. h)) (simp (length-take, length-drop) (omega (arith, c.requires.fits, c.loop-i-test.true, c.loop-i.invariant.long)))
