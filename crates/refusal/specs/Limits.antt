-- The most that a call may have of anything: 01, "The Rust domain" and "Trie in a pool".
use Rattle.std.specs.Prelude.{ℕ}

-- scalars of a text
abbrev pub max_text : ℕ
max_text = 65535

-- scalars of a word after trimming, and so levels of a trie below its root
abbrev pub max_word : ℕ
max_word = 255

-- nodes of a pool
abbrev pub max_nodes : ℕ
max_nodes = 1048576
