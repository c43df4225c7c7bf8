-- The ends that a map is made from.
use Rattle.std.specs.Prelude.{ℕ, suc, ◌≡◌, cond, List, [], ◌∷◌, length}
use Rattle.lists.specs.Scans.{within}

-- How many ends at the front are right: each is above the end before it, the first above 0, and
-- none is over n.
unfoldable pub right_from : ℕ → ℕ → List ℕ → ℕ
right_from n before [] = 0
right_from n before (e ∷ es) = cond (within (suc before) n e) (suc (right_from n e es)) 0

-- the index of the first end that is 0, over n or not above the end before it; the number of ends
-- where none is
abbrev pub first_wrong : ℕ → List ℕ → ℕ
first_wrong n ends = right_from n 0 ends

-- all ends are right
abbrev pub AllRight : ℕ → List ℕ → Type 0
AllRight n ends = first_wrong n ends ≡ length ends
