-- A part laid on a row.
use Rattle.std.specs.Prelude.{ℕ, ◌+◌, List, ◌++◌, length, take, drop}

-- the row with the part from a place on, and its other cells as they were
unfoldable pub laid_at : ℕ → List ℕ → List ℕ → List ℕ
laid_at place part row = take place row ++ part ++ drop (place + length part) row
