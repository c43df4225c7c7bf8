-- How many of the nodes of a list's trie stand on each level.
use Rattle.std.specs.Prelude.{ℕ, ◌+◌, cond, ◌&&◌, List, [], ◌∷◌, ltb, leb, length}
use Rattle.image_rules.specs.Records.{Term}
use Rattle.image_rules.specs.Order.{common}

-- 1 where a word of n characters that shares l with the one before it has a new node of level d
abbrev pub new : (l n d : ℕ) → ℕ
new l n d = cond (ltb l d && leb d n) 1 0

-- the nodes of level d that the words behind `before` are the first to have
unfoldable pub news_from : ℕ → List ℕ → List Term → ℕ
news_from d before [] = 0
news_from d before (t ∷ ts) = new (common before t.word) (length t.word) d + news_from d t.word ts
