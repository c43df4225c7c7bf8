-- Patterns of characters, and what the regex crate's leftmost-first choice makes of them.
use Rattle.std.specs.Prelude.{ℕ, ◌+◌, Bool, true, false, cond, ◌&&◌, ◌||◌, List, [], ◌∷◌, length, get_or, ltb}
use Rattle.lists.specs.Scans.{within}

-- A class of characters: those of one or more ranges.
pub record Range : Type 0 where
  pub lo : ℕ
  pub hi : ℕ

abbrev pub holds : List Range → ℕ → Bool
holds [] x = false
holds (r ∷ rs) x = within r.lo r.hi x || holds rs x

-- Is there a character of the class at p?
unfoldable pub holds_at : List Range → List ℕ → ℕ → Bool
holds_at cl text p = ltb p (length text) && holds cl (get_or text p 0)

pub data Pattern : Type 0 where
  -- matches at once
  end : Pattern
  -- never matches
  fail : Pattern
  -- a character of the class, then the rest
  then : List Range → Pattern → Pattern
  -- the first that matches
  either : Pattern → Pattern → Pattern

-- No match, or a match up to a position.
pub data Match : Type 0 where
  none : Match
  upto : ℕ → Match

abbrev pub or_else : Match → Match → Match
or_else none m = m
or_else (upto e) m = upto e

-- The match that starts at p. Of two patterns the second is tried only where the first fails as a
-- whole.
unfoldable pub match : Pattern → List ℕ → ℕ → Match
match end text p = upto p
match fail text p = none
match (then cl rest) text p = cond (holds_at cl text p) (match rest text (p + 1)) none
match (either a b) text p = or_else (match a text p) (match b text p)

abbrev pub is_match : Match → Bool
is_match none = false
is_match (upto e) = true

-- An item of an alternative: a character of a class, or such a character where there is one.
pub data Item : Type 0 where
  one : List Range → Item
  opt : List Range → Item

-- The items one after the other, and then the rest. An optional item is tried first with and then
-- without a character.
abbrev pub items : List Item → Pattern → Pattern
items [] rest = rest
items (one cl ∷ is) rest = then cl (items is rest)
items (opt cl ∷ is) rest = either (then cl (items is rest)) (items is rest)

-- An alternative: its number, its items, and the items of the group behind them, which is optional
-- as a whole.
pub record Alternative : Type 0 where
  pub number : ℕ
  pub parts : List Item
  pub group : List Item

abbrev pub optional : List Item → Pattern
optional [] = end
optional (i ∷ is) = either (items (i ∷ is) end) end

abbrev pub pattern : Alternative → Pattern
pattern a = items a.parts (optional a.group)

-- The first alternative that matches.
abbrev pub first_of : List Alternative → Pattern
first_of [] = fail
first_of (a ∷ rest) = either (pattern a) (first_of rest)

-- The number of the first alternative that matches at p, 0 where none does.
unfoldable pub winner : List Alternative → List ℕ → ℕ → ℕ
winner [] text p = 0
winner (a ∷ rest) text p = cond (is_match (match (pattern a) text p)) a.number (winner rest text p)
