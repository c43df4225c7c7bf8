-- Which nodes fall: those whose scalar isn't above that of the node before. c gives the scalar of a
-- node, k the number of its children.
use Rattle.std.specs.Prelude.{ℕ, zero, suc, ◌+◌, ◌-◌, cond, leb}

-- above every scalar
abbrev pub none : ℕ
none = 0xFFFFFFFF

-- 1 if x isn't above y
unfoldable pub fall_to : ℕ → ℕ → ℕ
fall_to y x = cond (leb x y) 1 0

-- x, or none without a child
unfoldable pub or_none : ℕ → ℕ → ℕ
or_none x zero = none
or_none x (suc k) = x

-- 1 if the node behind t falls
abbrev pub fall : (ℕ → ℕ) → ℕ → ℕ
fall c t = fall_to (c t) (c (suc t))

-- how many of the m nodes behind a fall
unfoldable pub falls : (ℕ → ℕ) → ℕ → ℕ → ℕ
falls c a zero = 0
falls c a (suc m) = falls c a m + fall c (a + m)

-- where the children of node i start
unfoldable pub place : (ℕ → ℕ) → ℕ → ℕ
place k zero = 1
place k (suc i) = place k i + k i

-- 1 if the first of m children, which start at s, falls
unfoldable pub first : (ℕ → ℕ) → ℕ → ℕ → ℕ
first c s zero = 0
first c s (suc m) = fall c (s - 1)

-- how many first children fall, of the first i nodes
unfoldable pub starts : (ℕ → ℕ) → (ℕ → ℕ) → ℕ → ℕ
starts c k zero = 0
starts c k (suc i) = starts c k i + first c (place k i) (k i)
