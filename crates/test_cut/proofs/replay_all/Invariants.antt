use Rattle.std.proofs.Common.{◌≤◌, length}
use Rattle.test_cut.proofs.replay_all.Given as goal

abbrev pub invariant-loop-turn : goal.invariant-loop-turn
invariant-loop-turn g l = l.kept ≤ length l.input
