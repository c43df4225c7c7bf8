-- WHAT TRIMMING STRIPS IS UNICODE'S White_Space: THESE 25 CHARACTERS AND NO OTHER.
use Rattle.std.specs.Prelude.{ℕ, ◌<◌, ◌≡◌, true, length}
use mathlib.Core.List.{List, [], ◌∷◌, Memᴰ}
use Rattle.char_string_white_space.specs.Trimmed.{is_trimmed}

-- The characters with the property White_Space (Unicode Character Database, PropList), one by one.
abbrev pub white_space : List ℕ
white_space =
    0x9 ∷ 0xA ∷ 0xB ∷ 0xC ∷ 0xD ∷ 0x20 ∷ 0x85 ∷ 0xA0 ∷ 0x1680
    ∷ 0x2000 ∷ 0x2001 ∷ 0x2002 ∷ 0x2003 ∷ 0x2004 ∷ 0x2005 ∷ 0x2006 ∷ 0x2007 ∷ 0x2008 ∷ 0x2009 ∷ 0x200A
    ∷ 0x2028 ∷ 0x2029 ∷ 0x202F ∷ 0x205F ∷ 0x3000 ∷ []

-- x stands in the list
abbrev pub In : ℕ → List ℕ → Type 0
In x xs = Memᴰ x xs

-- each is above the one before it, so none stands twice
abbrev pub Rising : List ℕ → Type 0
Rising [] = Unit
Rising (x ∷ []) = Unit
Rising (x ∷ y ∷ ys) = (x < y) × Rising (y ∷ ys)

-- A character is trimmed exactly if it is one of them, and they are 25.
pub record TrimsWhiteSpace : Type 0 where
  pub all : (x : ℕ) → In x white_space → is_trimmed x ≡ true
  pub only : (x : ℕ) → is_trimmed x ≡ true → In x white_space
  pub rising : Rising white_space
  pub number : length white_space ≡ 25
