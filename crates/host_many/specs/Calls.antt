-- What a host is told of a call with many texts, and what becomes of the rows that it lends: the
-- answer and the rows of the library function, as its contract gives them.
use Rattle.std.specs.Prelude.{ℕ, ◌≡◌, List}
use Rattle.newmm_many_answers.specs.Turns.{Singly}
use Rattle.newmm_many_answers.specs.Calls.{ManyCall, many_answer, answers_by, out_by, scratch_by}
use Rattle.newmm_many_answers.specs.Calls.{cuts_one, reasons_one}
use Rattle.host_telling.specs.Told.{Told, tells}

-- MANY TEXTS, BY ANY SINGLE CALL: what the host is told of the whole call, and what stands in the
-- answers, in the output and in scratch.
abbrev pub ManyToldBy : Singly → ManyCall → Told → (answers out scratch : List ℕ) → Type 0
ManyToldBy one c t answers out scratch =
    (t ≡ tells (many_answer c))
    × ((answers ≡ answers_by one c) × ((out ≡ out_by one c) × (scratch ≡ scratch_by one c)))

-- THE CUT OF MANY TEXTS, IN ANY MODE.
abbrev pub ManyTold : ManyCall → Told → (answers out scratch : List ℕ) → Type 0
ManyTold c = ManyToldBy (cuts_one c) c

-- THE SAME WITH REASONS. The output is the row of pairs.
abbrev pub ManyReasonsTold : ManyCall → Told → (answers pairs scratch : List ℕ) → Type 0
ManyReasonsTold c = ManyToldBy (reasons_one c) c
