-- A call of the cut with records, and what its contract says of it.
use Rattle.std.specs.Prelude.{ℕ, ◌≡◌, List, ◌++◌, map, length, drop, Result, Ok, Err}
use Rattle.newmm_rules.specs.declared.Ends.{Ends}
use Rattle.refusal.specs.declared.Refusal.{Refusal}
use Rattle.trie_pool.specs.Meaning.{meaning}
use Rattle.trie_check.specs.Refusals.{held}
use Rattle.newmm_rules.specs.declared.Mode.{Mode}
use Rattle.newmm_reason_rules.specs.Reasons.{Told}
use Rattle.newmm_answers.specs.Answers.{accepts, scratch_after}
use Rattle.newmm_reasons_answers.specs.Told.{told_of}
use Rattle.newmm_reasons_answers.specs.Answers.{reasons_answer}
use Rattle.newmm_records.specs.declared.Record.{Record}

-- What a call is given, each row as it was lent.
pub record RecordsCall : Type 0 where
  pub mode : Mode
  pub text : List ℕ
  pub pool : List ℕ
  pub scratch : List ℕ
  pub records : List Record

-- The call with these arguments, in the order of the function's parameters.
abbrev pub records_call : (text pool : List ℕ) (records : List Record) (scratch : List ℕ) → Mode → RecordsCall
records_call text pool records scratch mode =
    record { mode = mode; text = text; pool = pool; scratch = scratch; records = records }

-- The answer. 6 counts records.
abbrev pub records_answer_of : RecordsCall → Result Ends Refusal
records_answer_of c =
    reasons_answer c.mode c.text (meaning c.pool) (length c.scratch) (length c.records)

-- what is told of a token
abbrev pub record_told : Told → Record
record_told t = record { end = t.end; reason = t.reason }

-- A refusal changes no output. An accepted call writes the first records and keeps the rest.
abbrev pub record_rows : Result ℕ Refusal → List Record → List Record → List Record
record_rows (Ok n) new old = new ++ drop (length new) old
record_rows (Err r) new old = old

abbrev pub records_of : RecordsCall → List Record
records_of c =
    record_rows (accepts c.mode c.text (meaning c.pool) (length c.scratch) (length c.records))
    (map record_told (told_of c.mode (held (meaning c.pool)) c.text)) c.records

-- THE CUT WITH RECORDS: what it answers, and what it leaves in the row of records and in scratch.
abbrev pub Records : RecordsCall → Result Ends Refusal → List Record → List ℕ → Type 0
Records c answer records scratch =
    (answer ≡ records_answer_of c)
    × ((records ≡ records_of c) × (scratch ≡ scratch_after c.text (meaning c.pool) c.scratch))
