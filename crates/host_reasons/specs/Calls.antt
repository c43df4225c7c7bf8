-- What a host is told of a cut with reasons, and what becomes of the rows that it lends: the answer
-- and the rows of the library function, as its contract gives them.
use Rattle.std.specs.Prelude.{ℕ, ◌≡◌, List}
use Rattle.newmm_answers.specs.Calls.{Call, scratch_of}
use Rattle.newmm_reasons_answers.specs.Calls.{reasons_answer_of, pairs_of}
use Rattle.host_telling.specs.Told.{Told, tells_cut}

-- A CUT WITH REASONS, IN ANY MODE: what the host is told, and what stands in the row of pairs and
-- in scratch.
abbrev pub ReasonsTold : Call → Told → (pairs scratch : List ℕ) → Type 0
ReasonsTold c t pairs scratch = (t ≡ tells_cut (reasons_answer_of c)) × ((pairs ≡ pairs_of c) × (scratch ≡ scratch_of c))
