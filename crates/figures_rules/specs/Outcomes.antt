-- The figures of one text, by what became of it.
use Rattle.std.specs.Prelude.{ℕ, suc, ◌+◌, ◌≤◌, Bool, cond, ◌&&◌, List, [], ◌∷◌, length, eqb, leb}

-- A text was cut: its characters, the reason of each token, and the edges. Or it was refused with a
-- number.
pub data Outcome : Type 0 where
  cut : (characters : ℕ) (reasons : List ℕ) (edges : ℕ) → Outcome
  refused : ℕ → Outcome

-- how many of a list are x
unfoldable pub how_often : ℕ → List ℕ → ℕ
how_often x [] = 0
how_often x (y ∷ ys) = cond (eqb y x) 1 0 + how_often x ys

-- One text, its characters, its tokens, these by each reason, its edges, and as the most edges of
-- one text the same.
unfoldable pub of_cut : ℕ → List ℕ → ℕ → List ℕ
of_cut characters reasons edges =
    1
    ∷ characters
    ∷ length reasons
    ∷ how_often 1 reasons
    ∷ how_often 2 reasons
    ∷ how_often 3 reasons
    ∷ how_often 4 reasons
    ∷ how_often 5 reasons
    ∷ edges
    ∷ edges
    ∷ 0
    ∷ 0
    ∷ 0
    ∷ 0
    ∷ 0
    ∷ 0
    ∷ []

-- 1 where the number is that of the refusal
abbrev pub given : ℕ → ℕ → ℕ
given number n = cond (eqb number n) 1 0

-- A refused text adds one to texts and one to its refusal's count, and nothing else.
unfoldable pub of_refused : ℕ → List ℕ
of_refused number =
    1
    ∷ 0
    ∷ 0
    ∷ 0
    ∷ 0
    ∷ 0
    ∷ 0
    ∷ 0
    ∷ 0
    ∷ 0
    ∷ given number 1
    ∷ given number 2
    ∷ given number 3
    ∷ given number 4
    ∷ given number 5
    ∷ given number 6
    ∷ []

abbrev pub of_outcome : Outcome → List ℕ
of_outcome (cut characters reasons edges) = of_cut characters reasons edges
of_outcome (refused number) = of_refused number

-- Texts are refused with 1 to 6. No other number is a text's.
abbrev pub refuses_text : ℕ → Bool
refuses_text number = leb 1 number && leb number 6

-- a reason of 02, ticket 2
pub record Reason (r : ℕ) : Type 0 where
  pub least : 1 ≤ r
  pub most : r ≤ 5

abbrev pub Reasons : List ℕ → Type 0
Reasons [] = Unit {0}
Reasons (r ∷ rs) = Reason r × Reasons rs

-- What every outcome of a text has: at most 65,535 characters and as many tokens, each with a
-- reason, and at most 4,294,967,296 edges.
abbrev pub OfText : Outcome → Type 0
OfText (cut characters reasons edges) =
    (characters ≤ 65535) × (length reasons ≤ characters) × (edges ≤ 4294967296) × Reasons reasons
OfText (refused number) = (1 ≤ number) × (number ≤ 6)

abbrev pub OfTexts : List Outcome → Type 0
OfTexts [] = Unit {0}
OfTexts (o ∷ os) = OfText o × OfTexts os
