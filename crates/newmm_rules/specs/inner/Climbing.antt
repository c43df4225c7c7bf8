-- Ends that rise strictly from one position to another.
use Rattle.std.specs.Prelude.{ℕ, ◌<◌, List, [], ◌∷◌}

-- each end is above the one before it, the first above a, and the last is z; there is none exactly
-- where a is z
pub data Climbs : ℕ → List ℕ → ℕ → Type 0 where
  there : {a : ℕ} → Climbs a [] a
  up : {a e z : ℕ} {es : List ℕ} → a < e → Climbs e es z → Climbs a (e ∷ es) z
