-- What a function at a place of a text asks: the cells of a dictionary, the flags of the text's
-- cluster ends, and the place.
use Rattle.std.specs.Prelude.{ℕ, ◌<◌, ◌≡◌, List, length}
use Rattle.tcc.specs.Flags.{end_flags}
use Rattle.trie_pool.specs.inner.Sound.{Readable}

pub record Place (text pool flags : List ℕ) (b : ℕ) : Type 0 where
  pub inside : b < length text
  pub root_is : Readable pool 0
  pub flags_are : flags ≡ end_flags text
