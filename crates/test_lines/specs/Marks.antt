-- The parts of a text between its marks.
use Rattle.std.specs.Prelude.{ℕ, List, ◌==◌, not, length, take_while}

-- Where the first mark of a text stands; its length, where it has none.
abbrev pub mark_at : List ℕ → ℕ → ℕ
mark_at text mark = length (take_while (λ b. not (b == mark)) text)
