-- Unicode scalar values (the Unicode Standard, D76), and refusals 2 and 3 of 01.
use Rattle.std.specs.Prelude.{ℕ, Bool, ◌||◌, List, [], ◌∷◌, length, ltb, Result}
use Rattle.refusal.specs.declared.Refusal.{Refusal}
use Rattle.lists.specs.Scans.{within, leading}
use Rattle.refusal.specs.declared.Refusal.TheVariants.{NotAScalar}
use Rattle.refusal.specs.Answers.{Cause, answer, long_cause}

-- U+0000 to U+D7FF and U+E000 to U+10FFFF
unfoldable pub is_scalar : ℕ → Bool
is_scalar x = ltb x 0xD800 || within 0xE000 0x10FFFF x

-- the index of the first cell that isn't a scalar value, or the length where all are
abbrev pub first_non_scalar : List ℕ → ℕ
first_non_scalar cells = leading is_scalar cells

-- 2, then 3: a cell isn't a Unicode scalar value; the index of the first.
abbrev pub text_causes : List ℕ → List Cause
text_causes text =
    long_cause (length text)
    ∷ record { refusal = NotAScalar (first_non_scalar text); holds = ltb (first_non_scalar text) (length text) }
    ∷ []

unfoldable pub checked : List ℕ → Result ℕ Refusal
checked text = answer (text_causes text) (length text)
