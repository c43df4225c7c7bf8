use Rattle.image_build.proofs.Clearing.{Going}
use Rattle.image_build.proofs.clear_nodes.Given as goal

abbrev pub invariant-loop-i : goal.invariant-loop-i
invariant-loop-i l = Going l.initial.p l.p l.n l.i
