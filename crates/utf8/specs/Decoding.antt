-- 01, "Bytes to scalars": the decoder, its refusals and its output.
use Rattle.std.specs.Prelude.{ℕ, zero, suc, ◌+◌, Bool, true, false, not, cond, List, [], ◌∷◌, ◌++◌, length, take, drop, eqb, Result}
use Rattle.refusal.specs.declared.Refusal.{Refusal}
use Rattle.refusal.specs.declared.Refusal.TheVariants.{IllFormed}
use Rattle.refusal.specs.Answers.{Cause, answer, long_cause, out_cause}
use Rattle.utf8_sequences.specs.Utf8.{scalar_of}
use Rattle.utf8_sequences.specs.Sequences.{size_of}

-- What reading sequence after sequence finds: the scalars, the length of each one's sequence, the
-- bytes that they take, and whether these are all.
pub record Run : Type 0 where
  pub scalars : List ℕ
  pub sizes : List ℕ
  pub taken : ℕ
  pub whole : Bool

abbrev pub stop : Bool → Run
stop whole = record { scalars = []; sizes = []; taken = 0; whole = whole }

abbrev pub more : ℕ → List ℕ → Run → Run
more k s r =
    record {
      scalars = scalar_of (take k s) ∷ r.scalars;
      sizes = k ∷ r.sizes;
      taken = k + r.taken;
      whole = r.whole;
    }

-- At most `fuel` sequences. A sequence is a byte or more, so the number of bytes is enough.
unfoldable pub run : ℕ → List ℕ → Run
run zero s = stop (eqb (length s) 0)
run (suc fuel) s =
    cond (eqb (length s) 0) (stop true)
    (cond (eqb (size_of s) 0) (stop false) (more (size_of s) s (run fuel (drop (size_of s) s))))

abbrev pub run_all : List ℕ → Run
run_all bytes = run (length bytes) bytes

abbrev pub scalars_of : List ℕ → List ℕ
scalars_of bytes = (run_all bytes).scalars

-- 1: the bytes aren't well-formed; length of the longest well-formed prefix. Then 2.
abbrev pub bytes_causes : List ℕ → List Cause
bytes_causes bytes =
    record { refusal = IllFormed (run_all bytes).taken; holds = not (run_all bytes).whole }
    ∷ long_cause (length (scalars_of bytes))
    ∷ []

-- How many cells are lent for the scalars, and how many for the positions.
pub record Room : Type 0 where
  pub scalars : ℕ
  pub positions : ℕ

abbrev pub room_in : (scalars positions : List ℕ) → Room
room_in scalars positions = record { scalars = length scalars; positions = length positions }

-- Decoding: 1, 2, 6. 02, ticket 3: 6 also if the position row is under n+1 cells; the scalar row is
-- looked at first.
abbrev pub decode_causes : List ℕ → Room → List Cause
decode_causes bytes room =
    bytes_causes bytes
    ++ (out_cause (length (scalars_of bytes)) room.scalars
    ∷ out_cause (length (scalars_of bytes) + 1) room.positions
    ∷ [])

-- accepted with the number of scalars
abbrev pub decoded : List ℕ → Room → Result ℕ Refusal
decoded bytes room = answer (decode_causes bytes room) (length (scalars_of bytes))
