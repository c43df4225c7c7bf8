-- A long array has its length by a lemma: nothing counts its cells. Assumes nothing.
use Rattle.std.proofs.Common.{ℕ, sym}
use Rattle.std.proofs.Math.ListN.{length-replicate}
use Rattle.test_winners.proofs.main.Goals as goal

pub slice_bounds-replay-end : goal.slice_bounds-replay-end
slice_bounds-replay-end c = sym (length-replicate {0} {A = ℕ} 262144 0)
