-- Texts that are answered one after the other: what single calls, one for each text, answer and
-- leave.
use Rattle.std.specs.Prelude.{Ok, ℕ, List, [], ◌∷◌, ◌++◌, take, drop, Result, Err}
use Rattle.newmm_rules.specs.declared.Ends.{Ends}
use Rattle.refusal.specs.declared.Refusal.{Refusal}
use Rattle.refusal.specs.Numbers.{number_of, detail_of}

-- The four cells of an answer: number, count, edges, detail. 0 is no refusal's number, and stands
-- for an accepted text, which has no detail. A refused text has no count and no edges.
abbrev pub cells_of : Result Ends Refusal → List ℕ
cells_of (Ok told) = 0 ∷ told.ends ∷ told.edges ∷ 0 ∷ []
cells_of (Err r) = number_of r ∷ 0 ∷ 0 ∷ detail_of r ∷ []

-- the answers' cells, one answer behind the other
abbrev pub all_cells : List (Result Ends Refusal) → List ℕ
all_cells [] = []
all_cells (a ∷ as') = cells_of a ++ all_cells as'

-- the number of ends that an answer tells; a refused text has none
abbrev pub ends_told : Result Ends Refusal → ℕ
ends_told (Ok told) = told.ends
ends_told (Err r) = 0

-- A single call: what it answers, what stands in the output and in scratch behind it, and how many
-- cells of the output it wrote.
pub record Single : Type 0 where
  pub told : Result Ends Refusal
  pub out : List ℕ
  pub scratch : List ℕ
  pub cells : ℕ

-- the single call for a text, by the output and the scratch that it is lent
abbrev pub Singly : Type 0
Singly = (text out scratch : List ℕ) → Single

-- what it wrote, and the output behind that
abbrev pub wrote_of : Single → List ℕ
wrote_of s = take s.cells s.out

abbrev pub rest_of : Single → List ℕ
rest_of s = drop s.cells s.out

-- What a row of calls answered, and what stands in the output and in scratch after the last one.
pub record Turns : Type 0 where
  pub told : List (Result Ends Refusal)
  pub out : List ℕ
  pub scratch : List ℕ

-- a call, and those behind it
abbrev pub before : Single → Turns → Turns
before s later = record { told = s.told ∷ later.told; out = wrote_of s ++ later.out; scratch = later.scratch }

-- EACH TEXT IS ANSWERED BY A SINGLE CALL. The next one is lent the output behind what stands
-- written, and the scratch as it was left.
unfoldable pub in_turn : Singly → List (List ℕ) → (out scratch : List ℕ) → Turns
in_turn one [] out scratch = record { told = []; out = out; scratch = scratch }
in_turn one (text ∷ texts) out scratch =
    before (one text out scratch)
    (in_turn one texts (rest_of (one text out scratch)) (one text out scratch).scratch)
