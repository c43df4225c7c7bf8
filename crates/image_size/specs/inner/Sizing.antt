-- A node of a dictionary, and the bytes of its path.
use Rattle.std.specs.Prelude.{ℕ, ◌≡◌, List, [], length}
use Rattle.utf8_sequences.specs.Utf8.{encode}
use Rattle.trie_pool.specs.Cells.{used}
use Rattle.trie_pool.specs.Words.{at, rev}
use Rattle.trie_pool.specs.inner.Paths.{reach}
use Rattle.trie_pool.specs.inner.Sound.{Sound}

-- a path, written from its end, leads to node i, and takes so many bytes
pub record Stands (p : List ℕ) (i bytes : ℕ) : Type 0 where
  pub sound : Sound p (used p) 0
  pub path : List ℕ
  pub leads : reach p path ≡ at i
  pub long : bytes ≡ length (encode (rev path []))
