-- What is told of the sequence at a place.
use Rattle.std.specs.Prelude.{ℕ, ◌+◌, ◌*◌, ◌<◌, ◌≡◌, List, get_or, take}
use Rattle.utf8_sequences.specs.declared.Piece.{Piece}
use Rattle.utf8_sequences.specs.Utf8.{scalar_of}
use Rattle.utf8_sequences.specs.Sequences.{size_of}

-- the first scalar of the bytes, and the length of its sequence
abbrev pub piece_of : List ℕ → Piece
piece_of s = record { scalar = scalar_of (take (size_of s) s); size = size_of s }

-- four bytes from a place on as one number, the first of them lowest
pub record FourBytes (s : List ℕ) (at n : ℕ) : Type 0 where
  pub is : n ≡ get_or s at 0 + get_or s (at + 1) 0 * 0x100 + get_or s (at + 2) 0 * 0x10000 + get_or s (at + 3) 0 * 0x1000000
  pub first : get_or s at 0 < 256
  pub second : get_or s (at + 1) 0 < 256
  pub third : get_or s (at + 2) 0 < 256
  pub fourth : get_or s (at + 3) 0 < 256
