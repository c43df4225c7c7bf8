-- What the loop over the texts leaves.
use Rattle.std.specs.Prelude.{ℕ, ◌≡◌, List, ◌++◌, length, drop}
use Rattle.newmm_many_answers.specs.Turns.{Singly, all_cells}
use Rattle.newmm_many_answers.specs.Calls.{ManyCall, turns_by}

-- the rows after all turns
abbrev pub Left : Singly → ManyCall → (answers out scratch : List ℕ) → Type 0
Left one c answers out scratch =
    (answers ≡ all_cells (turns_by one c).told ++ drop (length (all_cells (turns_by one c).told)) c.answers)
    × ((out ≡ (turns_by one c).out) × (scratch ≡ (turns_by one c).scratch))
