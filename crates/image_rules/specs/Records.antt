-- 02, ticket 7: the records of a word list image, and the image of a list.
use Rattle.std.specs.Prelude.{ℕ, zero, suc, ◌+◌, ◌*◌, ◌/◌, ◌%◌, ◌<◌, List, [], ◌∷◌, ◌++◌, length, get_or}
use Rattle.utf8_sequences.specs.Utf8.{encode}

-- a word with its class
pub record Term : Type 0 where
  pub word : List ℕ
  pub class : ℕ

-- A number in so many bytes, little-endian, and the number that bytes are.
unfoldable pub le : ℕ → ℕ → List ℕ
le zero v = []
le (suc k) v = v % 256 ∷ le k (v / 256)

unfoldable pub value : List ℕ → ℕ
value [] = 0
value (b ∷ bytes) = b + 256 * value bytes

-- cells that are bytes
abbrev pub Bytes : List ℕ → Type 0
Bytes cells = (i : ℕ) → i < length cells → get_or cells i 0 < 256

-- A record is a four-byte length of what follows it, then a two-byte kind, then the body.
abbrev pub record_of : ℕ → List ℕ → List ℕ
record_of kind body = le 4 (2 + length body) ++ (le 2 kind ++ body)

-- Kind 1: class (two bytes), then the word in UTF-8.
unfoldable pub word_record : Term → List ℕ
word_record t = record_of 1 (le 2 t.class ++ encode t.word)

-- Kind 0, last and once: the number of words, four bytes.
unfoldable pub last_record : ℕ → List ℕ
last_record n = record_of 0 (le 4 n)

unfoldable pub word_records : List Term → List ℕ
word_records [] = []
word_records (t ∷ ts) = word_record t ++ word_records ts

-- the image of a list of words with their classes
unfoldable pub image_of : List Term → List ℕ
image_of ts = word_records ts ++ last_record (length ts)
