-- What taking the word of a record asks and leaves.
use Rattle.std.specs.Prelude.{ℕ, ◌-◌, ◌≤◌, ◌≡◌, Bool, true, false, ◌&&◌, List, Option, None, Some, length, get_or, take, drop, ◌++◌}
use Rattle.refusal.specs.Limits.{max_word}
use Rattle.char_string_white_space.specs.Trimmed.{is_trimmed}
use Rattle.utf8.specs.Decoding.{run_all, scalars_of}
use Rattle.image_rules.specs.Order.{below, common}
use Rattle.image_rules.specs.Reading.{follows}
use Rattle.image_word.specs.declared.Taken.{Taken}
use Rattle.image_word.specs.declared.WordReader.{WordReader}

-- the bytes are a word that may stand behind `before`
abbrev pub is_next : List ℕ → List ℕ → Bool
is_next bytes before = (run_all bytes).whole && follows before (scalars_of bytes)

-- The bytes are UTF-8 of n characters, 1 to 255, with none at an edge that is trimmed; the row
-- starts with them.
pub record Trimmed (bytes row : List ℕ) (n : ℕ) : Type 0 where
  pub some : 1 ≤ n
  pub short : n ≤ max_word
  pub good : (run_all bytes).whole ≡ true
  pub word : take n row ≡ scalars_of bytes
  pub number : n ≡ length (scalars_of bytes)
  pub start : is_trimmed (get_or (scalars_of bytes) 0 0) ≡ false
  pub stop : is_trimmed (get_or (scalars_of bytes) (length (scalars_of bytes) - 1) 0) ≡ false

-- nothing where the bytes are no word
abbrev pub Decodes : List ℕ → List ℕ → Option ℕ → Type 0
Decodes bytes row None = (before : List ℕ) → is_next bytes before ≡ false
Decodes bytes row (Some n) = Trimmed bytes row n

-- how many characters v and w share, where w stands behind v; the row then starts with w
abbrev pub Rises : List ℕ → List ℕ → List ℕ → List ℕ → Option ℕ → Type 0
Rises v w row row' None = below v w ≡ false
Rises v w row row' (Some l) = (below v w ≡ true) × (l ≡ common v w) × (row' ≡ w ++ drop (length w) row)

pub record Follows (bytes before prev : List ℕ) (size shared : ℕ) : Type 0 where
  pub is : is_next bytes before ≡ true
  pub number : size ≡ length (scalars_of bytes)
  pub together : shared ≡ common before (scalars_of bytes)
  pub word : take size prev ≡ scalars_of bytes
  pub short : size ≤ max_word

abbrev pub Takes : List ℕ → List ℕ → WordReader → Option Taken → Type 0
Takes bytes before reader (Some t) = Follows bytes before reader.last t.size t.shared × (reader.size ≡ t.size)
Takes bytes before reader None = is_next bytes before ≡ false
