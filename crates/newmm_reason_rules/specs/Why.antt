-- What each reason says of a token, in the words of 01's rule.
use Rattle.std.specs.Prelude.{ℕ, ◌+◌, ◌<◌, ◌≡◌, true, false, List, [], ◌∷◌}
use Rattle.newmm_rules.specs.Positions.{In}
use Rattle.newmm_rules.specs.Words.{Given, size, word_ends}
use Rattle.newmm_rules.specs.NonDictionary.{non_thai_at, starts_word, stops_at}
use Rattle.newmm_rules.specs.Tokens.{Token}
use Rattle.newmm_reason_rules.specs.Reasons.{dictionary_word, non_thai_run, to_word, to_non_thai, to_end, reason_at, Told}

-- The token from b is skipped: no word starts at b whose end is a cluster end, NON_THAI_PATTERN
-- doesn't match there, and the search goes past every place up to e.
pub record Skipped (g : Given) (b e : ℕ) : Type 0 where
  pub no_word : word_ends g b ≡ []
  pub no_run : non_thai_at g b ≡ 0
  pub on : b < e
  pub past : (p : ℕ) → b < p → p < e → stops_at g p ≡ false

-- The token from b to e has this reason. It is a dictionary word that ends at a cluster end. Or no
-- such word starts at b, and it is the match of NON_THAI_PATTERN. Or it is skipped to the cluster
-- end e, where such a word starts that isn't one or two characters U+0E01..0E2E; or where none
-- does, and NON_THAI_PATTERN matches. Or it is skipped to the end of the text.
pub data Why (g : Given) (b e : ℕ) : ℕ → Type 0 where
  word : In e (word_ends g b) → Why g b e dictionary_word
  run : word_ends g b ≡ [] → 0 < non_thai_at g b → e ≡ b + non_thai_at g b → Why g b e non_thai_run
  skip_to_word : Skipped g b e → e < size g → g.is_end e ≡ true → starts_word g e ≡ true → Why g b e to_word
  skip_to_run : Skipped g b e
      → e < size g
      → g.is_end e ≡ true
      → starts_word g e ≡ false
      → 0 < non_thai_at g e
      → Why g b e to_non_thai
  skip_to_end : Skipped g b e → e ≡ size g → Why g b e to_end

-- Every token by 01's rule has the reason of its start.
abbrev pub HasReason : Type 0
HasReason = (g : Given) (b e : ℕ) → Token g b e → Why g b e (reason_at g b)

-- The reason is the only one that the rule allows at that start, wherever the token ends.
abbrev pub OneReason : Type 0
OneReason = (g : Given) (b e e' r r' : ℕ) → Why g b e r → Why g b e' r' → r ≡ r'

-- tokens with their reasons, each of which starts where the one before it ends: from a to z
pub data Reasoned (g : Given) : ℕ → List Told → ℕ → Type 0 where
  stop : {a : ℕ} → Reasoned g a [] a
  then : {a z : ℕ} {t : Told} {ts : List Told}
      → Why g a t.end t.reason
      → Reasoned g t.end ts z
      → Reasoned g a (t ∷ ts) z
