-- What a cut of a text comes to, in every mode. Assumes nothing.
use Prim.Native.Nat.{ℕ, ◌*◌, ◌≤◌}
use native.Mathlib.Omega.{arith}
use mathlib.Core.List.{List}
use lib.ListN.{length}
use Rattle.trie_pool.specs.Meaning.{Words}
use Rattle.newmm_rules.specs.declared.Mode.{Mode}
use Rattle.newmm_rules.specs.inner.Climbing.{Climbs}
use Rattle.newmm_rules.proofs.Climbing.{few}
use Rattle.newmm_rules.proofs.Modes.{modes_climb}
use Rattle.newmm_rules.proofs.RunEdges.{modes_few}
use Rattle.newmm_answers.specs.Answers.{plain_cut, cut_of}
use Rattle.newmm_answers.proofs.Plain.{plain_right, plain_edges}

module _ (mode : Mode) (words : Words) (text : List ℕ) where
  -- ends rise strictly to n
  pub cut_climbs : Climbs 0 (cut_of mode words text).ends (length text)
  unfolding cut_of
  cut_climbs = modes_climb (plain_cut words) (plain_right words) text mode

  pub few_ends : length (cut_of mode words text).ends ≤ length text
  few_ends = omega (arith, few cut_climbs)

  pub few_edges : (cut_of mode words text).edges ≤ 2091 * length text
  unfolding cut_of
  few_edges = modes_few (plain_cut words) (plain_edges words) (plain_right words) mode text
