-- A long array has its length by a lemma: nothing counts its cells. Assumes nothing.
use Rattle.std.proofs.Common.{ℕ, sym}
use Rattle.std.proofs.Math.ListN.{length-replicate}
use Rattle.test_cut.proofs.main.Goals as goal

pub slice_bounds-rows-end : goal.slice_bounds-rows-end
slice_bounds-rows-end c = sym (length-replicate {0} {A = ℕ} 262144 0)

pub slice_bounds-rows-end-4 : goal.slice_bounds-rows-end-4
slice_bounds-rows-end-4 c = sym (length-replicate {0} {A = ℕ} 589952 0)
