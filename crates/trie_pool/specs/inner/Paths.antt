-- Paths from the root, written from their end.
use Rattle.std.specs.Prelude.{ℕ, List, [], ◌∷◌}
use Rattle.trie_pool.specs.Words.{Place, none, at, on_place, child}

-- the node that a word leads to from the root, the word written from its end
abbrev pub reach : List ℕ → List ℕ → Place
reach p [] = at 0
reach p (x ∷ u) = on_place none (λ i. child p i x) (reach p u)
