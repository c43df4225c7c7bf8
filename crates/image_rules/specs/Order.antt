-- Words by scalars: which stands first, and how far two go together.
use Rattle.std.specs.Prelude.{ℕ, suc, Bool, true, false, cond, List, [], ◌∷◌, eqb, ltb}

-- Words rise by scalars, a prefix first: whether v stands before w.
unfoldable pub below : List ℕ → List ℕ → Bool
below v [] = false
below [] (y ∷ w) = true
below (x ∷ v) (y ∷ w) = cond (eqb x y) (below v w) (ltb x y)

-- the length of the longest prefix that both have
unfoldable pub common : List ℕ → List ℕ → ℕ
common [] w = 0
common (x ∷ v) [] = 0
common (x ∷ v) (y ∷ w) = cond (eqb x y) (suc (common v w)) 0
