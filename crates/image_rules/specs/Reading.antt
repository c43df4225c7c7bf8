-- 02, ticket 7: what bytes say as an image: a list of words with their classes, or where they first
-- break a rule.
use Rattle.std.specs.Prelude.{ℕ, zero, suc, ◌+◌, ◌-◌, Bool, cond, ◌&&◌, List, [], ◌∷◌, eqb, leb, length, take, drop}
use Rattle.refusal.specs.Limits.{max_word}
use Rattle.utf8.specs.Decoding.{run_all, scalars_of}
use Rattle.char_string_trim.specs.Trimming.{trimmed_of}
use Rattle.trie_pool.specs.Meaning.{same}
use Rattle.image_rules.specs.Records.{Term, value}
use Rattle.image_rules.specs.Order.{below}

-- ---- the record that bytes start with

-- the length of what follows it
unfoldable pub size_at : List ℕ → ℕ
size_at bytes = value (take 4 bytes)

-- Its header and its body are there.
unfoldable pub whole : List ℕ → Bool
whole bytes = leb 4 (length bytes) && leb 2 (size_at bytes) && leb (4 + size_at bytes) (length bytes)

unfoldable pub kind_at : List ℕ → ℕ
kind_at bytes = value (take 2 (drop 4 bytes))

unfoldable pub body_at : List ℕ → List ℕ
body_at bytes = take (size_at bytes - 2) (drop 6 bytes)

-- what follows the record
unfoldable pub behind : List ℕ → List ℕ
behind bytes = drop (4 + size_at bytes) bytes

-- ---- kind 1

-- the bytes of its word
unfoldable pub word_bytes : List ℕ → List ℕ
word_bytes bytes = drop 2 (body_at bytes)

unfoldable pub term_of : List ℕ → Term
term_of bytes = record { word = scalars_of (word_bytes bytes); class = value (take 2 (body_at bytes)) }

-- 1 to 255 long, trimmed, and above the word before it
unfoldable pub follows : List ℕ → List ℕ → Bool
follows before w = leb 1 (length w) && leb (length w) max_word && same (trimmed_of w) w && below before w

-- Kind 1: class, then the word in UTF-8.
unfoldable pub is_word : List ℕ → List ℕ → Bool
is_word before bytes =
    whole bytes
    && eqb (kind_at bytes) 1
    && leb 3 (length (body_at bytes))
    && (run_all (word_bytes bytes)).whole
    && follows before (term_of bytes).word

-- ---- kind 0

-- Kind 0: the number of words, four bytes.
unfoldable pub is_last : ℕ → List ℕ → Bool
is_last n bytes =
    whole bytes && eqb (kind_at bytes) 0 && eqb (length (body_at bytes)) 4 && eqb (value (body_at bytes)) n

-- ---- the image

pub data Read : Type 0 where
  broken : ℕ → Read
  list : List Term → Read

abbrev pub onto : Term → Read → Read
onto t (broken at) = broken at
onto t (list ts) = list (t ∷ ts)

-- No word record stands at the offset. A right kind 0 takes ten bytes, and nothing may follow it.
unfoldable pub ended : ℕ → ℕ → List ℕ → Read
ended n at bytes = cond (is_last n bytes) (cond (eqb (length bytes) 10) (list []) (broken (at + 10))) (broken at)

-- The bytes from an offset on, behind n words, the last of them `before`; at most `fuel` records.
-- A record is a byte or more, so the number of bytes is enough.
unfoldable pub read : ℕ → List ℕ → ℕ → ℕ → List ℕ → Read
read zero before n at bytes = broken at
read (suc fuel) before n at bytes =
    cond (is_word before bytes)
    (onto (term_of bytes) (read fuel (term_of bytes).word (suc n) (at + (4 + size_at bytes)) (behind bytes)))
    (ended n at bytes)

-- The empty word stands before all.
unfoldable pub read_of : List ℕ → Read
read_of image = read (length image) [] 0 0 image
