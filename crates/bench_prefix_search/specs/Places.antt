-- What the search at every place of a text finds.
use Rattle.std.specs.Prelude.{ℕ, zero, suc, ◌+◌, ◌≡◌, Bool, cond, not, ◌&&◌, List, ◌++◌, ltb, length, drop}
use Rattle.trie_pool.specs.Rules.{cells_of, is_dictionary}
use Rattle.trie_pool.specs.Words.{holds}
use Rattle.trie_pool.specs.Meaning.{Words, prefix_lengths}

-- the number of words that start at the first n places
abbrev pub found : Words → List ℕ → ℕ → ℕ
found held text zero = 0
found held text (suc n) = found held text n + length (prefix_lengths held (drop n text))

-- the row after the first n places: each writes its lengths to the front
abbrev pub row_after : Words → List ℕ → List ℕ → ℕ → List ℕ
row_after held text row zero = row
row_after held text row (suc n) =
    prefix_lengths held (drop n text) ++ drop (length (prefix_lengths held (drop n text))) (row_after held text row n)

-- whether the places are searched
abbrev pub searches : List ℕ → List ℕ → List ℕ → Bool
searches pool text row = not (ltb 65535 (length text)) && (not (ltb (length row) (length text)) && is_dictionary pool)

-- the row and the number that the search leaves
pub record Searched (pool text old new : List ℕ) (r : ℕ) : Type 0 where
  pub number : r ≡ cond (searches pool text old) (found (holds (cells_of pool)) text (length text)) 0
  pub row : new ≡ cond (searches pool text old) (row_after (holds (cells_of pool)) text old (length text)) old
