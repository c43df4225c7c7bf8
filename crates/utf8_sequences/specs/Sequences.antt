-- 01, "Bytes to scalars": the decoder's table, and the sequence that bytes start with.
use Rattle.std.specs.Prelude.{ℕ, ◌+◌, ◌*◌, Bool, true, false, cond, ◌&&◌, List, [], ◌∷◌, length}
use Rattle.lists.specs.Scans.{within}
use Rattle.utf8_sequences.specs.Utf8.{Range, table37}

-- The entry of a first byte: the sequence length (0 for none) and the allowed second-byte range,
-- as one number, a byte each.
abbrev pub packed : List Range → ℕ
packed [] = 0
packed (a ∷ []) = 1 * 65536
packed (a ∷ b ∷ row) = (2 + length row) * 65536 + b.lo * 256 + b.hi

abbrev pub opens : List Range → ℕ → Bool
opens [] b = false
opens (r ∷ row) b = within r.lo r.hi b

abbrev pub lead_in : List (List Range) → ℕ → ℕ
lead_in [] b = 0
lead_in (row ∷ rows) b = cond (opens row b) (packed row) (lead_in rows b)

-- The decoder uses a table of 256 entries, one for each first byte: this one.
unfoldable pub lead_of : ℕ → ℕ
lead_of b = lead_in table37 b

-- the bytes start with a sequence of the row
abbrev pub starts : List Range → List ℕ → Bool
starts [] s = true
starts (r ∷ row) [] = false
starts (r ∷ row) (b ∷ s) = within r.lo r.hi b && starts row s

abbrev pub size_in : List (List Range) → List ℕ → ℕ
size_in [] s = 0
size_in (row ∷ rows) s = cond (starts row s) (length row) (size_in rows s)

-- the length of the well-formed sequence that the bytes start with, 0 where they start with none
unfoldable pub size_of : List ℕ → ℕ
size_of s = size_in table37 s
