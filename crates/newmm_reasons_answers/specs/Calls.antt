-- A call of the cut with reasons, and what its contract says of it. It is given what a call of the
-- cut is given; the output is for pairs.
use Rattle.std.specs.Prelude.{◌≡◌, List, ℕ, length, Result}
use Rattle.newmm_rules.specs.declared.Ends.{Ends}
use Rattle.refusal.specs.declared.Refusal.{Refusal}
use Rattle.trie_pool.specs.Meaning.{meaning}
use Rattle.newmm_answers.specs.Calls.{Call, scratch_of}
use Rattle.newmm_reasons_answers.specs.Answers.{pair_room, reasons_answer, pairs_after}

-- The answer, and the output afterwards. Scratch is left as a cut leaves it.
abbrev pub reasons_answer_of : Call → Result Ends Refusal
reasons_answer_of c = reasons_answer c.mode c.text (meaning c.pool) (length c.scratch) (pair_room c.out)

abbrev pub pairs_of : Call → List ℕ
pairs_of c = pairs_after c.mode c.text (meaning c.pool) (length c.scratch) c.out

-- THE CUT WITH REASONS: what it answers, and what it leaves in the output and in scratch.
abbrev pub Reasons : Call → Result Ends Refusal → (out scratch : List ℕ) → Type 0
Reasons c answer out scratch = (answer ≡ reasons_answer_of c) × ((out ≡ pairs_of c) × (scratch ≡ scratch_of c))
