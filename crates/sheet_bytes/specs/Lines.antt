-- 01, "Program": the bytes of a line.
use Rattle.std.specs.Prelude.{ℕ, not, List, ◌++◌, eqb, length, take, drop}
use Rattle.lists.specs.Scans.{leading}

-- where the first line feed stands, or the length where there is none
abbrev pub line_end : List ℕ → ℕ
line_end bytes = leading (λ (b : ℕ). not (eqb b 10)) bytes

-- the first `used` bytes of a row and a part behind them, as far as the row has room
abbrev pub kept : List ℕ → ℕ → List ℕ → List ℕ
kept row used part = take (length row) (take used row ++ part)

-- bytes laid on the front of a row, which keeps its other bytes
abbrev pub laid : List ℕ → List ℕ → List ℕ
laid bytes row = bytes ++ drop (length bytes) row
