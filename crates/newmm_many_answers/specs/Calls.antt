-- A call with many texts, and what its contract says of it.
use Rattle.std.specs.Prelude.{ℕ, ◌*◌, ◌≡◌, List, [], ◌∷◌, length, ltb, Result, Ok, Err}
use Rattle.refusal.specs.declared.Refusal.{Refusal}
use Rattle.refusal.specs.declared.Refusal.TheVariants.{WrongPosition}
use Rattle.refusal.specs.Answers.{Cause, answer, output, out_cause}
use Rattle.trie_pool.specs.Meaning.{meaning}
use Rattle.newmm_rules.specs.declared.Mode.{Mode}
use Rattle.newmm_many_answers.specs.Texts.{texts_of, first_wrong}
use Rattle.newmm_many_answers.specs.Turns.{Singly, Turns, all_cells, in_turn}
use Rattle.newmm_many_answers.specs.Singles.{cut_singly, reasons_singly}

-- What a call is given, each row as it was lent: `row` holds the texts, `ends` where each of them
-- ends in it.
pub record ManyCall : Type 0 where
  pub mode : Mode
  pub row : List ℕ
  pub ends : List ℕ
  pub pool : List ℕ
  pub answers : List ℕ
  pub out : List ℕ
  pub scratch : List ℕ

-- The call with these arguments, in the order of the function's parameters.
abbrev pub many_call : (row ends pool answers out scratch : List ℕ) → Mode → ManyCall
many_call row ends pool answers out scratch mode =
    record { mode = mode; row = row; ends = ends; pool = pool; answers = answers; out = out; scratch = scratch }

-- 10: a text end is over the row's length, or below the one before; its index.
abbrev pub ends_cause : ℕ → List ℕ → Cause
ends_cause size ends =
    record { refusal = WrongPosition (first_wrong size ends); holds = ltb (first_wrong size ends) (length ends) }

-- The whole call: 10, 6. Four cells to a text are needed for the answers.
abbrev pub many_causes : ℕ → List ℕ → ℕ → List Cause
many_causes size ends room = ends_cause size ends ∷ out_cause (4 * length ends) room ∷ []

-- It is accepted with the number of texts.
abbrev pub many_answer : ManyCall → Result ℕ Refusal
many_answer c = answer (many_causes (length c.row) c.ends (length c.answers)) (length c.ends)

-- What single calls answer and leave, one for each text.
abbrev pub turns_by : Singly → ManyCall → Turns
turns_by one c = in_turn one (texts_of c.row c.ends) c.out c.scratch

-- A refusal of the whole call changes no row.
abbrev pub unless : Result ℕ Refusal → List ℕ → List ℕ → List ℕ
unless (Ok n) new old = new
unless (Err r) new old = old

-- The answers, the output and the scratch afterwards.
abbrev pub answers_by : Singly → ManyCall → List ℕ
answers_by one c = output (many_answer c) (all_cells (turns_by one c).told) c.answers

abbrev pub out_by : Singly → ManyCall → List ℕ
out_by one c = unless (many_answer c) (turns_by one c).out c.out

abbrev pub scratch_by : Singly → ManyCall → List ℕ
scratch_by one c = unless (many_answer c) (turns_by one c).scratch c.scratch

-- MANY TEXTS IN ONE CALL: what it answers, and what it leaves in the three rows, by the single
-- calls that it stands for.
abbrev pub ManyBy : Singly → ManyCall → Result ℕ Refusal → (answers out scratch : List ℕ) → Type 0
ManyBy one c answer answers out scratch =
    (answer ≡ many_answer c) × ((answers ≡ answers_by one c) × ((out ≡ out_by one c) × (scratch ≡ scratch_by one c)))

-- THE CUT OF MANY TEXTS: by the public cut.
abbrev pub cuts_one : ManyCall → Singly
cuts_one c = cut_singly c.mode (meaning c.pool)

abbrev pub ManyCuts : ManyCall → Result ℕ Refusal → (answers out scratch : List ℕ) → Type 0
ManyCuts c = ManyBy (cuts_one c) c

-- THE SAME WITH REASONS: by the cut with reasons. The output is for pairs.
abbrev pub reasons_one : ManyCall → Singly
reasons_one c = reasons_singly c.mode (meaning c.pool)

abbrev pub ManyReasons : ManyCall → Result ℕ Refusal → (answers out scratch : List ℕ) → Type 0
ManyReasons c = ManyBy (reasons_one c) c
