-- The words that start at a place of a text.
use Rattle.std.specs.Prelude.{ℕ, suc, ◌-◌, min, Bool, ◌&&◌, List, length, take, drop}
use Rattle.newmm_rules.specs.Limits.{max_word}
use Rattle.newmm_rules.specs.Positions.{up_from, those}

-- What is cut: the text, which positions are its cluster ends, and which words the dictionary
-- holds.
pub record Given : Type 0 where
  pub text : List ℕ
  pub is_end : ℕ → Bool
  pub held : List ℕ → Bool

-- the number of characters
abbrev pub size : Given → ℕ
size g = length g.text

-- the characters from b up to, and without, e
abbrev pub span : Given → ℕ → ℕ → List ℕ
span g b e = take (e - b) (drop b g.text)

-- a dictionary word starting at b, whose end is a cluster end
abbrev pub is_word : Given → ℕ → ℕ → Bool
is_word g b e = g.held (span g b e) && g.is_end e

-- The ends of those words, shortest first. Words are 1 to 255 characters long.
unfoldable pub word_ends : Given → ℕ → List ℕ
word_ends g b = those (is_word g b) (up_from (min max_word (size g - b)) (suc b))
