-- What judging the tokens of a claim asks.
use Rattle.std.specs.Prelude.{ℕ, ◌≡◌, List}
use Rattle.tcc.specs.Flags.{end_flags}
use Rattle.trie_pool.specs.inner.Sound.{Readable}

-- the cells of a dictionary, and the flags of the text's cluster ends
pub record Judges (text pool flags : List ℕ) : Type 0 where
  pub root_is : Readable pool 0
  pub flags_are : flags ≡ end_flags text
