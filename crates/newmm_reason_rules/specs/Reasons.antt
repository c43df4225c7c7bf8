-- SAY WHY THE BREAK IS THERE (02, ticket 2): the reason of a token by 01's rule at its start.
use Rattle.std.specs.Prelude.{ℕ, cond, List, [], ◌∷◌, ltb, eqb}
use Rattle.newmm_rules.specs.Words.{Given, size, word_ends}
use Rattle.newmm_rules.specs.NonDictionary.{non_thai_at, starts_word, skip_end}
use Rattle.newmm_rules.specs.Claims.{is_nil}

-- One of dictionary word, non-Thai run, skipped to a word, skipped to a non-Thai run, skipped to
-- the end: 1 to 5 as listed.
abbrev pub dictionary_word : ℕ
dictionary_word = 1

abbrev pub non_thai_run : ℕ
non_thai_run = 2

abbrev pub to_word : ℕ
to_word = 3

abbrev pub to_non_thai : ℕ
to_non_thai = 4

abbrev pub to_end : ℕ
to_end = 5

-- The search for the token's end stopped at a place, or at none. Where both stopping reasons hold
-- at one place, "to a word" is given.
unfoldable pub skip_reason : Given → ℕ → ℕ
skip_reason g b = cond (ltb (skip_end g b) (size g)) (cond (starts_word g (skip_end g b)) to_word to_non_thai) to_end

-- The reason of the token that starts at b: a word, where one starts there; else the match of
-- NON_THAI_PATTERN, where there is one; else the search.
unfoldable pub reason_at : Given → ℕ → ℕ
reason_at g b = cond (is_nil (word_ends g b)) (cond (eqb (non_thai_at g b) 0) (skip_reason g b) non_thai_run) dictionary_word

-- What is told of a token: its end and its reason.
pub record Told : Type 0 where
  pub end : ℕ
  pub reason : ℕ

-- the tokens with these ends, the first of which starts at b
unfoldable pub told_from : Given → ℕ → List ℕ → List Told
told_from g b [] = []
told_from g b (e ∷ es) = record { end = e; reason = reason_at g b } ∷ told_from g e es
