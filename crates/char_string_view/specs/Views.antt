-- Views: a struct that holds the caller's scalars with a start and an end.
use Rattle.std.specs.Prelude.{ℕ, List, length}
use Rattle.std.specs.Borrow.{Bor}
use Rattle.char_string.specs.declared.Span.{Span}
use Rattle.char_string.specs.Parts.{fitted, part_of, cell_at, sub_view}
use Rattle.char_string_view.specs.declared.CharView.{CharView}

abbrev pub view_of : Bor (List ℕ) → ℕ → ℕ → CharView
view_of text start end = record { text = text; start = start; end = end }

-- A view whose numbers don't fit is read as empty: its positions are read as these.
abbrev pub positions : CharView → Span
positions v = fitted (length v.text.now) v.start v.end

-- what a view shows
abbrev pub shown : CharView → List ℕ
shown v = part_of v.text.now v.start v.end

-- where that lies: in the caller's text itself, at the cell of its start
abbrev pub shown_at : CharView → ℕ × ℕ
shown_at v = cell_at v.text.ref_ptr (positions v).start

-- the view of a view, over the same text
abbrev pub sub_view_of : CharView → ℕ → ℕ → CharView
sub_view_of v from to = view_of v.text (sub_view (positions v) from to).start (sub_view (positions v) from to).end
