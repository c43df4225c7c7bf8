-- The characters that trimming strips.
use Rattle.std.specs.Prelude.{ℕ, Bool, ◌||◌, eqb}
use Rattle.lists.specs.Scans.{within}

-- Trimming strips, at both edges, U+0009..000D, 0020, 0085, 00A0, 1680, 2000..200A, 2028, 2029,
-- 202F, 205F and 3000: the 25 characters of Unicode's White_Space.
unfoldable pub is_trimmed : ℕ → Bool
is_trimmed x =
    within 0x9 0xD x
    || eqb x 0x20
    || eqb x 0x85
    || eqb x 0xA0
    || eqb x 0x1680
    || within 0x2000 0x200A x
    || eqb x 0x2028
    || eqb x 0x2029
    || eqb x 0x202F
    || eqb x 0x205F
    || eqb x 0x3000
