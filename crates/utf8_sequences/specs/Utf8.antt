-- Well-formed UTF-8: the Unicode Standard, section 3.9, tables 3-6 and 3-7.
use Rattle.std.specs.Prelude.{ℕ, ◌+◌, ◌*◌, ◌/◌, ◌%◌, Bool, true, false, cond, ◌&&◌, ◌||◌, List, [], ◌∷◌, ◌++◌, T, ltb}
use Rattle.lists.specs.Scans.{within}

pub record Range : Type 0 where
  pub lo : ℕ
  pub hi : ℕ

infix 95 ◌‥◌
abbrev pub ◌‥◌ : ℕ → ℕ → Range
lo ‥ hi = record { lo = lo; hi = hi }

-- Table 3-7, row by row: the range of each byte of a sequence.
abbrev pub table37 : List (List Range)
table37 =
    (0x00 ‥ 0x7F ∷ [])
    ∷ (0xC2 ‥ 0xDF ∷ 0x80 ‥ 0xBF ∷ [])
    ∷ (0xE0 ‥ 0xE0 ∷ 0xA0 ‥ 0xBF ∷ 0x80 ‥ 0xBF ∷ [])
    ∷ (0xE1 ‥ 0xEC ∷ 0x80 ‥ 0xBF ∷ 0x80 ‥ 0xBF ∷ [])
    ∷ (0xED ‥ 0xED ∷ 0x80 ‥ 0x9F ∷ 0x80 ‥ 0xBF ∷ [])
    ∷ (0xEE ‥ 0xEF ∷ 0x80 ‥ 0xBF ∷ 0x80 ‥ 0xBF ∷ [])
    ∷ (0xF0 ‥ 0xF0 ∷ 0x90 ‥ 0xBF ∷ 0x80 ‥ 0xBF ∷ 0x80 ‥ 0xBF ∷ [])
    ∷ (0xF1 ‥ 0xF3 ∷ 0x80 ‥ 0xBF ∷ 0x80 ‥ 0xBF ∷ 0x80 ‥ 0xBF ∷ [])
    ∷ (0xF4 ‥ 0xF4 ∷ 0x80 ‥ 0x8F ∷ 0x80 ‥ 0xBF ∷ 0x80 ‥ 0xBF ∷ [])
    ∷ []

-- bytes that are a sequence of a row
abbrev pub fits : List Range → List ℕ → Bool
fits [] [] = true
fits [] (b ∷ q) = false
fits (r ∷ row) [] = false
fits (r ∷ row) (b ∷ q) = within r.lo r.hi b && fits row q

abbrev pub fits_any : List (List Range) → List ℕ → Bool
fits_any [] q = false
fits_any (row ∷ rows) q = fits row q || fits_any rows q

-- a well-formed sequence of one scalar
unfoldable pub is_sequence : List ℕ → Bool
is_sequence q = fits_any table37 q

-- Table 3-6, row by row: the scalar value of a sequence, from the bits that are its own in each
-- byte.
abbrev pub scalar_of : List ℕ → ℕ
scalar_of [] = 0
scalar_of (a ∷ []) = a
scalar_of (a ∷ b ∷ []) = a % 32 * 64 + b % 64
scalar_of (a ∷ b ∷ c ∷ []) = a % 16 * 4096 + b % 64 * 64 + c % 64
scalar_of (a ∷ b ∷ c ∷ d ∷ []) = a % 8 * 262144 + b % 64 * 4096 + c % 64 * 64 + d % 64
scalar_of (a ∷ b ∷ c ∷ d ∷ e ∷ q) = 0

-- Table 3-6 from right to left: the bytes of a scalar value.
abbrev pub bytes_of : ℕ → List ℕ
bytes_of v =
    cond (ltb v 0x80) (v ∷ [])
    (cond (ltb v 0x800) ((0xC0 + v / 64) ∷ (0x80 + v % 64) ∷ [])
    (cond (ltb v 0x10000) ((0xE0 + v / 4096) ∷ (0x80 + v / 64 % 64) ∷ (0x80 + v % 64) ∷ [])
    ((0xF0 + v / 262144) ∷ (0x80 + v / 4096 % 64) ∷ (0x80 + v / 64 % 64) ∷ (0x80 + v % 64) ∷ [])))

unfoldable pub encode : List ℕ → List ℕ
encode [] = []
encode (v ∷ vs) = bytes_of v ++ encode vs

-- Well-formed UTF-8, with the scalars that it encodes: one well-formed sequence after the other.
pub data Utf8 : List ℕ → List ℕ → Type 0 where
  empty : Utf8 [] []
  next : (q : List ℕ) {bytes scalars : List ℕ} → T (is_sequence q) → Utf8 bytes scalars
      → Utf8 (q ++ bytes) (scalar_of q ∷ scalars)
