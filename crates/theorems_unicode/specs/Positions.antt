-- 02, ticket 3: what the positions of well-formed bytes say, against the Unicode Standard.
use Rattle.std.specs.Prelude.{ℕ, suc, ◌+◌, ◌≤◌, ◌<◌, ◌≡◌, true, List, length, get_or}
use Rattle.char_string.specs.declared.Span.{Span}
use Rattle.char_string.specs.Parts.{between}
use Rattle.utf8_sequences.specs.Utf8.{encode, Utf8}
use Rattle.utf8.specs.Decoding.{run_all, scalars_of}
use Rattle.utf8.specs.Positions.{positions_of}

abbrev pub up_to : ℕ → ℕ → Span
up_to start end = record { start = start; end = end }

-- A row of positions for bytes and their n characters. It has n+1 cells, starts at 0, ends at the
-- number of bytes, and steps by 1 to 4. The bytes between two positions are well-formed UTF-8, and
-- encode the characters between them.
pub record Positions (bytes scalars row : List ℕ) : Type 0 where
  pub cells : length row ≡ length scalars + 1
  pub first : get_or row 0 0 ≡ 0
  pub last : get_or row (length scalars) 0 ≡ length bytes
  pub steps : (i : ℕ)
      → i < length scalars
      → (get_or row i 0 + 1 ≤ get_or row (suc i) 0) × (get_or row (suc i) 0 ≤ get_or row i 0 + 4)
  pub parts : (i j : ℕ)
      → i ≤ j
      → j ≤ length scalars
      → Utf8 (between bytes (up_to (get_or row i 0) (get_or row j 0))) (between scalars (up_to i j))

-- The positions of all bytes that are decoded.
abbrev pub PositionsRight : Type 0
PositionsRight = (bytes : List ℕ) → (run_all bytes).whole ≡ true → Positions bytes (scalars_of bytes) (positions_of bytes)

-- The bytes between two positions are what the characters between them are encoded to.
abbrev pub PartsEncoded : Type 0
PartsEncoded =
    (bytes : List ℕ) (i j : ℕ)
    → (run_all bytes).whole ≡ true
    → i ≤ j
    → j ≤ length (scalars_of bytes)
    → between bytes (up_to (get_or (positions_of bytes) i 0) (get_or (positions_of bytes) j 0))
    ≡ encode (between (scalars_of bytes) (up_to i j))
