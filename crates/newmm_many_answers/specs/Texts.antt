-- Texts that stand joined in one row, and the positions in it where each of them ends.
use Rattle.std.specs.Prelude.{ℕ, suc, ◌-◌, cond, List, [], ◌∷◌, take, drop}
use Rattle.lists.specs.Scans.{within}

-- A text goes from the end of the text before it, or from 0, to its own end.
unfoldable pub texts_from : List ℕ → ℕ → List ℕ → List (List ℕ)
texts_from row from [] = []
texts_from row from (e ∷ es) = take (e - from) (drop from row) ∷ texts_from row e es

abbrev pub texts_of : (row ends : List ℕ) → List (List ℕ)
texts_of row ends = texts_from row 0 ends

-- How many ends at the front are right: none is below the one before it, and none is over the
-- row's size.
unfoldable pub right_from : ℕ → ℕ → List ℕ → ℕ
right_from size from [] = 0
right_from size from (e ∷ es) = cond (within from size e) (suc (right_from size e es)) 0

-- the index of the first wrong end, or the number of ends where all are right
abbrev pub first_wrong : ℕ → List ℕ → ℕ
first_wrong size ends = right_from size 0 ends
