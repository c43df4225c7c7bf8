-- What decoding takes of any bytes, against the Unicode Standard.
use Rattle.std.specs.Prelude.{ℕ, ◌≤◌, ◌≡◌, true, List, length, take}
use Rattle.utf8_sequences.specs.Utf8.{Utf8}
use Rattle.utf8.specs.Decoding.{run_all, scalars_of}

-- The bytes that a run takes lie within the text, are well-formed UTF-8 and encode its scalars; a
-- run that is whole takes them all.
pub record Taken (s : List ℕ) : Type 0 where
  pub inside : (run_all s).taken ≤ length s
  pub prefix : Utf8 (take (run_all s).taken s) (scalars_of s)
  pub all : (run_all s).whole ≡ true → (run_all s).taken ≡ length s
