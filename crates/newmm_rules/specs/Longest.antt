-- The lengths of tokens, and those before the longest one.
use Rattle.std.specs.Prelude.{ℕ, ◌+◌, ◌-◌, max, Bool, cond, List, [], ◌∷◌, leb}

-- the lengths of the tokens with these ends, the first of which starts at `from`
unfoldable pub lengths : ℕ → List ℕ → List ℕ
lengths from [] = []
lengths from (e ∷ es) = (e - from) ∷ lengths e es

unfoldable pub longest : List ℕ → ℕ
longest [] = 0
longest (l ∷ ls) = max l (longest ls)

-- The lengths of the tokens before the longest one, the last of equals: a token stands before that
-- one where a later token is as long or longer.
unfoldable pub before_longest : List ℕ → ℕ
before_longest [] = 0
before_longest (l ∷ ls) = cond (leb l (longest ls)) (l + before_longest ls) 0
