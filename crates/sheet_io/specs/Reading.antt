-- What a call of `read_some` does to the bytes that a reader has left, where those are known.
use Rattle.std.specs.Prelude.{◌≡◌, ℕ, ◌<◌, ◌≤◌, List, length, take, Result, Ok, Err}
use Rattle.std.specs.Io.KnownBytes.{Keeps, Consumes, IsAtEnd}
use Rattle.std.specs.declared.option.Option.{Option}
use Rattle.sheet_io.specs.declared.Failure.{Failure}

-- The n bytes that were found stand at the buffer's front and are gone from the reader, and there
-- are none only at the end or with no room; where the read failed, the reader has what it had.
abbrev pub ReadOnce : Option (List ℕ) → Option (List ℕ) → Result ℕ Failure → List ℕ → Type 0
ReadOnce old new (Ok n) buffer = (n ≤ length buffer) × Consumes old new (take n buffer) × (n ≡ 0 → 0 < length buffer → IsAtEnd new)
ReadOnce old new (Err failure) buffer = Keeps old new
