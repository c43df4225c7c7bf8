-- What the search for words asks and finds.
use Rattle.std.specs.Prelude.{ℕ, ◌+◌, ◌*◌, ◌≤◌, ◌≡◌, List, ◌++◌, length, drop}
use Rattle.refusal.specs.Limits.{max_text}
use Rattle.trie_pool.specs.Cells.{used}
use Rattle.trie_pool.specs.Words.{holds}
use Rattle.trie_pool.specs.inner.Sound.{Readable}
use Rattle.trie_pool.specs.Meaning.{prefix_lengths}

-- what the functions on a text ask: that a length is a cell, and that the row has room for the
-- answer
pub record Asks (p text out : List ℕ) : Type 0 where
  pub here : Readable p 0
  pub short : length text ≤ max_text
  pub room : length (prefix_lengths (holds p) text) ≤ length out

-- the answer stands at the front of the row, and the rest of it is as it was
pub record Wrote (old answer new : List ℕ) (r : ℕ) : Type 0 where
  pub count : r ≡ length answer
  pub is : new ≡ answer ++ drop (length answer) old

-- what the word count asks: the cells of the nodes in use, the root among them
pub record Counts (p : List ℕ) : Type 0 where
  pub some : 1 ≤ used p
  pub fits : 8 * used p ≤ length p + 4
