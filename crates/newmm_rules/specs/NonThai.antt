-- NON_THAI_PATTERN: each of its five alternatives as the length of what it matches at the text's
-- start, 0 where it doesn't match. None matches nothing, so 0 is free. The choice is
-- leftmost-first: the first alternative that matches, each repetition as long as it can be.
use Rattle.std.specs.Prelude.{ℕ, zero, suc, ◌+◌, Bool, cond, ◌&&◌, ◌||◌, List, [], ◌∷◌, length, drop, eqb}
use Rattle.lists.specs.Scans.{within, leading}

-- [-a-zA-Z]
abbrev pub is_letter : ℕ → Bool
is_letter x = eqb x 0x2D || within 0x61 0x7A x || within 0x41 0x5A x

-- [0-9]
abbrev pub is_digit : ℕ → Bool
is_digit x = within 0x30 0x39 x

-- [๐-๙]
abbrev pub is_thai_digit : ℕ → Bool
is_thai_digit x = within 0xE50 0xE59 x

-- [,\.]
abbrev pub is_point : ℕ → Bool
is_point x = eqb x 0x2C || eqb x 0x2E

-- [ \t]
abbrev pub is_blank : ℕ → Bool
is_blank x = eqb x 0x20 || eqb x 0x9

-- one turn of ([,\.][d]+)*: a comma or point, and the digits behind it; nothing where no digit
-- follows, so that the comma or point is given back
abbrev pub group_of : (ℕ → Bool) → List ℕ → ℕ
group_of digit [] = 0
group_of digit (x ∷ s) = cond (is_point x) (cond (eqb (leading digit s) 0) 0 (suc (leading digit s))) 0

-- ([,\.][d]+)*, at most k turns
unfoldable pub groups : ℕ → (ℕ → Bool) → List ℕ → ℕ
groups zero digit s = 0
groups (suc k) digit s = cond (eqb (group_of digit s) 0) 0 (group_of digit s + groups k digit (drop (group_of digit s) s))

-- [d]+([,\.][d]+)*
unfoldable pub number : (ℕ → Bool) → List ℕ → ℕ
number digit s = cond (eqb (leading digit s) 0) 0 (leading digit s + groups (length s) digit (drop (leading digit s) s))

-- \r?\n
abbrev pub line_end : List ℕ → ℕ
line_end [] = 0
line_end (x ∷ []) = cond (eqb x 0xA) 1 0
line_end (x ∷ y ∷ s) = cond (eqb x 0xA) 1 (cond (eqb x 0xD && eqb y 0xA) 2 0)

-- the first alternative that matches
unfoldable pub first_match : List ℕ → ℕ
first_match [] = 0
first_match (m ∷ ms) = cond (eqb m 0) (first_match ms) m

unfoldable pub non_thai : List ℕ → ℕ
non_thai s =
    first_match
    (leading is_letter s ∷ number is_digit s ∷ number is_thai_digit s ∷ leading is_blank s ∷ line_end s ∷ [])
