-- 02, ticket 7: what writing an image answers.
use Rattle.std.specs.Prelude.{ℕ, List, [], ◌∷◌, ◌++◌, length, Result}
use Rattle.refusal.specs.declared.Refusal.{Refusal}
use Rattle.refusal.specs.Answers.{Cause, out_cause, answer}
use Rattle.trie_pool.specs.Rules.{cells_of}
use Rattle.trie_pool.specs.Meaning.{meaning}
use Rattle.trie_check.specs.Refusals.{pool_causes}
use Rattle.image_rules.specs.Records.{image_of}
use Rattle.image_list.specs.Listed.{list_of}

-- the image of a pool's words
unfoldable pub image_in : List ℕ → List ℕ
image_in pool = image_of (list_of (cells_of pool))

-- The writer's refusals: 4, 6.
abbrev pub write_causes : List ℕ → List ℕ → List Cause
write_causes pool out = pool_causes (meaning pool) ++ (out_cause (length (image_in pool)) (length out) ∷ [])

-- It is accepted with the bytes of the image.
abbrev pub write_answer : List ℕ → List ℕ → Result ℕ Refusal
write_answer pool out = answer (write_causes pool out) (length (image_in pool))
