-- Where a test on cells first fails, and where it last holds.
use Rattle.std.specs.Prelude.{ℕ, suc, Bool, cond, ◌&&◌, List, [], ◌∷◌, leb, eqb}

abbrev pub within : ℕ → ℕ → ℕ → Bool
within lo hi x = leb lo x && leb x hi

-- how many cells at the front pass the test
unfoldable pub leading : (ℕ → Bool) → List ℕ → ℕ
leading p [] = 0
leading p (x ∷ xs) = cond (p x) (suc (leading p xs)) 0

-- the position behind the last cell that passes the test, 0 where none does
unfoldable pub behind_last : (ℕ → Bool) → List ℕ → ℕ
behind_last p [] = 0
behind_last p (x ∷ xs) = cond (eqb (behind_last p xs) 0) (cond (p x) 1 0) (suc (behind_last p xs))
