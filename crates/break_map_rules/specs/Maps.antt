-- A map of breaks: a row of cells of 64 bits with a bit for each position 0 to n.
use Rattle.std.specs.Prelude.{ℕ, zero, suc, ◌+◌, ◌*◌, ◌-◌, ◌/◌, ◌%◌, ◌^◌, ◌<◌, Bool, cond, List, [], ◌∷◌, length, get_or, eqb}
use Rattle.newmm_rules.specs.Positions.{up_from, those, how_many, member}

-- the cells of a row of u64
abbrev pub Cells : List ℕ → Type 0
Cells map = (i : ℕ) → i < length map → get_or map i 0 < 2 ^ 64

-- A map is over (n+1)/64 cells rounded up, and these have so many bits.
abbrev pub cells_for : ℕ → ℕ
cells_for n = (n + 1 + 63) / 64

abbrev pub bits_for : ℕ → ℕ
bits_for n = 64 * cells_for n

-- ---- a map that is written

abbrev pub bit : Bool → ℕ
bit b = cond b 1 0

-- d bits from position p on, lowest first, as a number
unfoldable pub word : (ℕ → Bool) → ℕ → ℕ → ℕ
word test zero p = 0
word test (suc d) p = bit (test p) + 2 * word test d (suc p)

-- c cells from position p on
unfoldable pub cells : (ℕ → Bool) → ℕ → ℕ → List ℕ
cells test zero p = []
cells test (suc c) p = word test 64 p ∷ cells test c (p + 64)

-- A bit is set exactly at the token ends.
unfoldable pub map_of : ℕ → List ℕ → List ℕ
map_of n ends = cells (λ (p : ℕ). member p ends) (cells_for n) 0

-- ---- a map that is given

-- Bit p is bit (p mod 64), lowest first, of cell p/64 rounded down.
unfoldable pub bit_at : List ℕ → ℕ → ℕ
bit_at map p = get_or map (p / 64) 0 / 2 ^ (p % 64) % 2

abbrev pub is_break : List ℕ → ℕ → Bool
is_break map p = eqb (bit_at map p) 1

-- the breaks among d positions from p on, rising
abbrev pub breaks : List ℕ → ℕ → ℕ → List ℕ
breaks map d p = those (is_break map) (up_from d p)

-- all breaks of a map over the positions 0 to n
abbrev pub all_breaks : ℕ → List ℕ → List ℕ
all_breaks n map = breaks map (n + 1) 0

-- The number of breaks up to and including a position.
abbrev pub breaks_up_to : List ℕ → ℕ → ℕ
breaks_up_to map p = how_many (is_break map) (p + 1) 0

-- the breaks above a position, up to n
abbrev pub breaks_above : ℕ → List ℕ → ℕ → List ℕ
breaks_above n map p = breaks map (n - p) (p + 1)

-- the bits set above n in the last used cell
abbrev pub bits_above : ℕ → List ℕ → List ℕ
bits_above n map = breaks map (bits_for n - (n + 1)) (n + 1)
