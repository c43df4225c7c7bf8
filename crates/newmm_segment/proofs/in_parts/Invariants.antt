use Prim.Native.Nat.{ℕ, ◌+◌, ◌-◌}
use lib.ListN.{length}
use Rattle.trie_pool.specs.Words.{holds}
use Rattle.newmm_answers.specs.Answers.{plain_cut}
use Rattle.newmm_segment.proofs.Rounds.{Until}
use Rattle.newmm_segment.proofs.in_parts.Given as goal

abbrev pub invariant-loop-start : goal.invariant-loop-start
invariant-loop-start g l =
    Until (λ (i : ℕ). i + l.space_cut) (plain_cut (holds l.pool)) (g.W.PartWriter.told (holds l.pool)) l.text l.initial.row l.row l.start l.count l.edges

abbrev pub decreases-loop-start : goal.decreases-loop-start
decreases-loop-start g l = length l.text - l.start
