-- What a host is told of a cut, and what becomes of the rows that it lends: the answer and the rows
-- of the library function, as its contract gives them.
use Rattle.std.specs.Prelude.{ℕ, ◌≡◌, List}
use Rattle.newmm_answers.specs.Calls.{Call, answer_of, out_of, scratch_of}
use Rattle.host_telling.specs.Told.{Told, tells_cut}

-- A CUT, IN ANY MODE: what the host is told, and what stands in the output and in scratch.
abbrev pub CutTold : Call → Told → (out scratch : List ℕ) → Type 0
CutTold c t out scratch = (t ≡ tells_cut (answer_of c)) × ((out ≡ out_of c) × (scratch ≡ scratch_of c))
