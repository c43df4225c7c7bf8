-- 01, "Clusters": the numbers of the alternatives, and what they say of a match.
use Rattle.std.specs.Prelude.{ℕ, ◌≡◌, cond, List, [], ◌∷◌, map, ltb, eqb}
use Rattle.tcc_rules.specs.Patterns.{Pattern, fail, match, is_match, Alternative, pattern, first_of, winner}
use Rattle.tcc_rules.specs.Rules.{alternatives}

-- The 29 alternatives have their numbers in their order.
abbrev pub Numbered : Type 0
Numbered =
    map (λ (a : Alternative). a.number) alternatives
    ≡ 1 ∷ 2 ∷ 3 ∷ 4 ∷ 5 ∷ 6 ∷ 7 ∷ 8 ∷ 9 ∷ 10 ∷ 11 ∷ 12 ∷ 13 ∷ 14 ∷ 15
    ∷ 16 ∷ 17 ∷ 18 ∷ 19 ∷ 20 ∷ 21 ∷ 22 ∷ 23 ∷ 24 ∷ 25 ∷ 26 ∷ 27 ∷ 28 ∷ 29 ∷ []

-- the pattern of the alternative with number n; one that never matches where there is none
unfoldable pub with_number : ℕ → List Alternative → Pattern
with_number n [] = fail
with_number n (a ∷ rest) = cond (eqb a.number n) (pattern a) (with_number n rest)

-- At each place a cluster's match is there exactly where `winner` isn't 0.
abbrev pub MatchIfWinner : Type 0
MatchIfWinner =
    (text : List ℕ) (p : ℕ)
    → is_match (match (first_of alternatives) text p) ≡ ltb 0 (winner alternatives text p)

-- It is the match of the alternative that `winner` names.
abbrev pub MatchOfWinner : Type 0
MatchOfWinner =
    (text : List ℕ) (p : ℕ)
    → match (first_of alternatives) text p ≡ match (with_number (winner alternatives text p) alternatives) text p
