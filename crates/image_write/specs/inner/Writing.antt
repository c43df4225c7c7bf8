-- What writing the words at a node asks and leaves.
use Rattle.std.specs.Prelude.{ℕ, ◌+◌, ◌≤◌, ◌≡◌, List, [], length, take}
use Rattle.utf8_sequences.specs.Utf8.{encode}
use Rattle.trie_pool.specs.Cells.{first_at, count_at, used}
use Rattle.trie_pool.specs.Words.{at, rev}
use Rattle.trie_pool.specs.inner.Paths.{reach}
use Rattle.trie_pool.specs.inner.Sound.{Sound}
use Rattle.image_rules.specs.Records.{Term, word_records}
use Rattle.image_list.specs.Listed.{own, block}
use Rattle.image_list.specs.inner.Under.{under}
use Rattle.image_bytes.specs.inner.Laying.{laid_at}

-- what a node's own record asks: the first n bytes of the row are its path's, and there is room
pub record OwnAsks (mark : ℕ) (row : List ℕ) (n : ℕ) (out : List ℕ) (from : ℕ) : Type 0 where
  pub path : List ℕ
  pub fits : n ≤ length row
  pub bytes : take n row ≡ encode (rev path [])
  pub room : from + length (word_records (own path mark)) ≤ length out

-- and leaves
pub record OwnWrote (mark : ℕ) (path out new : List ℕ) (from end : ℕ) : Type 0 where
  pub count : end ≡ from + length (word_records (own path mark))
  pub is : new ≡ laid_at from (word_records (own path mark)) out

-- what is listed below a node, by the path to it
abbrev pub kids : List ℕ → List ℕ → ℕ → List Term
kids p path i = block (under p) p path (first_at p i) (count_at p i)

-- What the words below node i ask: a path, written from its end, leads to it, its bytes are the
-- first n of a row that any path fits, and there is room.
pub record Writes (p : List ℕ) (i : ℕ) (row : List ℕ) (n : ℕ) (out : List ℕ) (from : ℕ) : Type 0 where
  pub sound : Sound p (used p) 0
  pub path : List ℕ
  pub leads : reach p path ≡ at i
  pub large : 1020 ≤ length row
  pub bytes : take n row ≡ encode (rev path [])
  pub long : n ≡ length (encode (rev path []))
  pub room : from + length (word_records (kids p path i)) ≤ length out

-- and leave
pub record Wrote (p : List ℕ) (i : ℕ) (path row row' : List ℕ) (n : ℕ) (out new : List ℕ) (from end : ℕ) : Type 0 where
  pub keeps : take n row' ≡ take n row
  pub count : end ≡ from + length (word_records (kids p path i))
  pub is : new ≡ laid_at from (word_records (kids p path i)) out
