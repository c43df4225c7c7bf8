-- The words of a dictionary in rising order: node by node, a prefix first, then the children in the
-- order of their scalars.
use Rattle.std.specs.Prelude.{ℕ, zero, suc, ◌+◌, List, [], ◌∷◌, ◌++◌}
use Rattle.refusal.specs.Limits.{max_word}
use Rattle.trie_pool.specs.Cells.{scalar_at, first_at, count_at, mark_at}
use Rattle.trie_pool.specs.Words.{rev}
use Rattle.image_rules.specs.Records.{Term}

-- the word that ends at a node, by its path, written from its end, and its mark
abbrev pub own : List ℕ → ℕ → List Term
own path zero = []
own path (suc class) = record { word = rev path []; class = class } ∷ []

-- what a block of n nodes from s on lists, node by node
abbrev pub block : (List ℕ → ℕ → List Term) → List ℕ → List ℕ → ℕ → ℕ → List Term
block below p path s zero = []
block below p path s (suc n) = below (scalar_at p s ∷ path) s ++ block below p path (suc s) n

-- The words at a node and below it. `levels` is more than the levels below it.
unfoldable pub listed : ℕ → List ℕ → List ℕ → ℕ → List Term
listed zero p path i = []
listed (suc levels) p path i =
    own path (mark_at p i) ++ block (λ v r. listed levels p v r) p path (first_at p i) (count_at p i)

-- A dictionary has at most 255 levels below its root.
unfoldable pub list_of : List ℕ → List Term
list_of p = listed (max_word + 1) p [] 0
