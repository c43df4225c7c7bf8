-- Sub-texts: a part of the caller's text, and a view with a start and an end.
use Rattle.std.specs.Prelude.{ℕ, ◌+◌, ◌-◌, ◌*◌, ◌≤◌, Bool, cond, ◌&&◌, List, length, get_or, take, drop, leb, ltb, Option, Some, None}
use Rattle.char_string.specs.declared.Span.{Span}

-- A right pair of positions has start ≤ end ≤ n.
abbrev pub right_pair : ℕ → ℕ → ℕ → Bool
right_pair n start end = leb start end && leb end n

-- the same of a view's start and end
pub record Within (n : ℕ) (s : Span) : Type 0 where
  pub order : s.start ≤ s.end
  pub inside : s.end ≤ n

-- A wrong pair of positions gives the empty part at the text's start: it is read as this pair.
unfoldable pub fitted : ℕ → ℕ → ℕ → Span
fitted n start end = cond (right_pair n start end) (record { start = start; end = end }) (record { start = 0; end = 0 })

abbrev pub between : List ℕ → Span → List ℕ
between text s = take (s.end - s.start) (drop s.start text)

-- the part of the text between two positions; also what a view over the text with that start and
-- end shows
abbrev pub part_of : List ℕ → ℕ → ℕ → List ℕ
part_of text start end = between text (fitted (length text) start end)

-- Cell i of cells that lie at `place`: a block of memory and an offset in it, four bytes a cell. A
-- token handed out is that part of the caller's text itself, no copy: so it lies where the cell at
-- its start lies.
abbrev pub cell_at : ℕ × ℕ → ℕ → ℕ × ℕ
cell_at place i = (place.0, i * 4 + place.1)

-- the character of a view at an index
abbrev pub char_at : List ℕ → ℕ → Option ℕ
char_at view i = cond (ltb i (length view)) (Some (get_or view i 0)) None

-- a sub-view, by positions of the view v
abbrev pub shifted : ℕ → Span → Span
shifted by s = record { start = by + s.start; end = by + s.end }

unfoldable pub sub_view : Span → ℕ → ℕ → Span
sub_view v from to = shifted v.start (fitted (v.end - v.start) from to)
