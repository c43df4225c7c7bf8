use Prim.Native.Nat.{◌-◌}
use mathlib.Core.Path.{◌≡◌}
use lib.ListN.{length}
use Rattle.newmm_word_step.specs.inner.Walks.{given_by}
use Rattle.newmm_skip.proofs.Skipping.{Skipping, Inner}
use Rattle.newmm_skip.proofs.skip_end.Given as goal

abbrev pub invariant-lengths : goal.invariant-lengths
invariant-lengths l = Inner l.text l.pool l.b l.p l.limit l.e l.node × (l.p ≡ l.initial.p)

abbrev pub decreases-lengths : goal.decreases-lengths
decreases-lengths l = l.limit - l.e

abbrev pub invariant-places : goal.invariant-places
invariant-places l = Skipping (given_by l.text l.pool) l.b l.p

abbrev pub decreases-places : goal.decreases-places
decreases-places l = length l.text - l.p
