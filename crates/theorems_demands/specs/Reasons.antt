-- SAY WHY THE BREAK IS THERE (02, ticket 2): what is claimed of the cut with reasons.
use Rattle.std.specs.Prelude.{ℕ, ◌+◌, ◌*◌, ◌≡◌, List, [], ◌∷◌, ◌++◌, map, length, take}
use Rattle.std.proofs.Math.Option.{some}
use Rattle.trie_pool.specs.Meaning.{Words, meaning}
use Rattle.newmm_rules.specs.declared.Mode.{Mode}
use Rattle.newmm_reason_rules.specs.Reasons.{Told}
use Rattle.newmm_reason_rules.specs.Why.{Reasoned}
use Rattle.newmm_answers.specs.Answers.{accepted_with, given, plain_cut, cut_of}
use Rattle.newmm_answers.specs.Calls.{Call, call, answer_of}
use Rattle.newmm_reasons_answers.specs.Told.{parts_of, moved, told_of}
use Rattle.newmm_reasons_answers.specs.Answers.{pairs, pair_room}
use Rattle.newmm_reasons_answers.specs.Calls.{reasons_answer_of, pairs_of}
use Rattle.newmm_records.specs.declared.Record.{Record}
use Rattle.newmm_records.specs.Calls.{RecordsCall, record_told, records_answer_of, records_of}
use Rattle.theorems_demands.specs.Demand3.{Operation, Demand3AnyFor, Demand3For}

-- the ends of what is told
abbrev pub ends_told : List Told → List ℕ
ends_told ts = map (λ (t : Told). t.end) ts

-- THE SAME TOKENS: what is told has the ends of the cut, in every mode.
abbrev pub SameTokens : Type 0
SameTokens = (mode : Mode) (words : Words) (text : List ℕ) → ends_told (told_of mode words text) ≡ (cut_of mode words text).ends

-- Parts one behind the other, the first of which starts at `start`, and what is told of them. Of
-- each part tokens are told from its start to its end, each with its reason by 01's rule in that
-- part alone; then they are moved to where the part stands.
pub data ReasonedParts (words : Words) : ℕ → List (List ℕ) → List Told → Type 0 where
  none : {start : ℕ} → ReasonedParts words start [] []
  one : {start : ℕ} {part : List ℕ} {parts : List (List ℕ)} {ts later : List Told}
      → Reasoned (given words part) 0 ts (length part)
      → ReasonedParts words (start + length part) parts later
      → ReasonedParts words start (part ∷ parts) (map (moved start) ts ++ later)

-- the parts, one behind the other
abbrev pub whole : List (List ℕ) → List ℕ
whole [] = []
whole (part ∷ parts) = part ++ whole parts

-- THE TRUE REASONS, in every mode: about the part, and the parts make up the text. In plain mode
-- the text is the only part.
abbrev pub TrueReasons : Type 0
TrueReasons =
    (mode : Mode) (words : Words) (text : List ℕ)
    → ReasonedParts words 0 (parts_of mode (plain_cut words) text) (told_of mode words text)
    × (whole (parts_of mode (plain_cut words) text) ≡ text)

-- The refusals, the number of records and the edge count are those of a cut with a cell for each
-- record that there is room for.
abbrev pub AnswersAsCut : Type 0
AnswersAsCut =
    (c : Call) (out : List ℕ)
    → length out ≡ pair_room c.out
    → reasons_answer_of c ≡ answer_of (call c.text c.pool out c.scratch c.mode)

-- What a call that answered with n records wrote: by the words of its pool, which passes, the pairs
-- of n tokens. They have the ends and the edge count of the cut, and each the true reason.
pub record WroteReasons (c : Call) (n edges : ℕ) (after : List ℕ) : Type 0 where
  pub words : Words
  pub means : meaning c.pool ≡ some words
  pub told : List Told
  pub many : length told ≡ n
  pub wrote : take (2 * n) after ≡ pairs told
  pub same_ends : ends_told told ≡ (cut_of c.mode words c.text).ends
  pub same_edges : (cut_of c.mode words c.text).edges ≡ edges
  pub reasons : ReasonedParts words 0 (parts_of c.mode (plain_cut words) c.text) told

abbrev pub ReasonsWrote : Type 0
ReasonsWrote = (c : Call) (n edges : ℕ) → reasons_answer_of c ≡ accepted_with n edges → WroteReasons c n edges (pairs_of c)

-- DEMAND 3 FOR REASONS: an answer of n records takes 2n cells.
abbrev pub telling : Operation
telling =
    record {
      Asked = Call;
      Cell = ℕ;
      mode = λ c. c.mode;
      text = λ c. c.text;
      pool = λ c. c.pool;
      scratch = λ c. c.scratch;
      out = λ c. c.out;
      answer = reasons_answer_of;
      after = pairs_of;
      cells = λ n. 2 * n;
    }

abbrev pub Demand3AnyReasons : Type 0
Demand3AnyReasons = Demand3AnyFor telling

abbrev pub Demand3Reasons : Type 0
Demand3Reasons = Demand3For telling

-- RECORDS: the same, one record for each token instead of a pair of cells. A call that answered
-- with n has written the records of what the pairs tell of the same text.
pub record WroteRecords (c : RecordsCall) (n edges : ℕ) (after : List Record) : Type 0 where
  pub words : Words
  pub means : meaning c.pool ≡ some words
  pub told : List Told
  pub many : length told ≡ n
  pub wrote : take n after ≡ map record_told told
  pub same_ends : ends_told told ≡ (cut_of c.mode words c.text).ends
  pub same_edges : (cut_of c.mode words c.text).edges ≡ edges
  pub reasons : ReasonedParts words 0 (parts_of c.mode (plain_cut words) c.text) told

abbrev pub RecordsWrote : Type 0
RecordsWrote = (c : RecordsCall) (n edges : ℕ) → records_answer_of c ≡ accepted_with n edges → WroteRecords c n edges (records_of c)

-- DEMAND 3 FOR RECORDS: an answer of n takes n records.
abbrev pub recording : Operation
recording =
    record {
      Asked = RecordsCall;
      Cell = Record;
      mode = λ c. c.mode;
      text = λ c. c.text;
      pool = λ c. c.pool;
      scratch = λ c. c.scratch;
      out = λ c. c.records;
      answer = records_answer_of;
      after = records_of;
      cells = λ n. n;
    }

abbrev pub Demand3AnyRecords : Type 0
Demand3AnyRecords = Demand3AnyFor recording

abbrev pub Demand3Records : Type 0
Demand3Records = Demand3For recording
