-- What every plain cut of a text comes to. Assumes nothing.
use Prim.Native.Nat.{ℕ, ◌*◌, ◌≤◌}
use mathlib.Core.List.{List}
use lib.ListN.{length}
use Rattle.trie_pool.specs.Meaning.{Words}
use Rattle.newmm_rules.specs.Tokens.{Tokens}
use Rattle.newmm_rules.proofs.Result.{tokens, edges_most}
use Rattle.newmm_rules.proofs.Climbing.{of_tokens}
use Rattle.newmm_rules.proofs.Samples.{Right}
use Rattle.newmm_answers.specs.Answers.{given, plain_cut}

pub plain_tokens : (words : Words) (text : List ℕ) → Tokens (given words text) 0 (plain_cut words text).ends (length text)
unfolding plain_cut
plain_tokens words text = tokens (given words text)

-- ends rise strictly to n
pub plain_right : (words : Words) → Right (plain_cut words)
plain_right words text = of_tokens (plain_tokens words text)

pub plain_edges : (words : Words) (text : List ℕ) → (plain_cut words text).edges ≤ 51 * length text
unfolding plain_cut
plain_edges words text = edges_most (given words text)
