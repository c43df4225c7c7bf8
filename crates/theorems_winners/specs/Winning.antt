-- 02, ticket 5: which alternatives win, which never do, and whose matches are ever made shorter.
use Rattle.std.specs.Prelude.{ℕ, ◌≡◌, ◌⊎◌, List, [], ◌∷◌, drop}
use Rattle.tcc_rules.specs.Patterns.{upto, match, first_of, winner}
use Rattle.tcc_rules.specs.Rules.{alternatives, lookahead}
use Rattle.tcc_rules.specs.Clusters.{cluster_end, cluster_ends}
use Rattle.tcc_tables.specs.Answers.{winners_of}

abbrev pub All : {A : Type 0} → (A → Type 0) → List A → Type 0
All P [] = Unit {0}
All P (x ∷ xs) = P x × All P xs

-- ALTERNATIVES 17 AND 25 TO 29 NEVER WIN, on any text at any place.
abbrev pub NeverWins : ℕ → Type 0
NeverWins n = (text : List ℕ) (p : ℕ) → winner alternatives text p ≡ n → ⊥

abbrev pub losers : List ℕ
losers = 17 ∷ 25 ∷ 26 ∷ 27 ∷ 28 ∷ 29 ∷ []

abbrev pub NeverWin : Type 0
NeverWin = All NeverWins losers

-- So none of them is ever told.
abbrev pub NeverTold : Type 0
NeverTold = (text : List ℕ) → All (λ (w : ℕ). All (λ (n : ℕ). w ≡ n → ⊥) losers) (winners_of text)

-- A text, where its clusters end, and which alternatives win them.
pub record Case : Type 0 where
  pub text : List ℕ
  pub ends : List ℕ
  pub winners : List ℕ

abbrev pub told_of : List ℕ → Case
told_of text = record { text = text; ends = cluster_ends text; winners = winners_of text }

abbrev pub Right : Case → Type 0
Right c = told_of c.text ≡ c

-- a text that is one cluster
abbrev pub won_by : ℕ → (text : List ℕ) → ℕ → Case
won_by number text n = record { text = text; ends = n ∷ []; winners = number ∷ [] }

-- THE OTHER 23 DO WIN, each the text beside it; and a character that none takes is told as 0.
abbrev pub wins : List Case
wins =
    won_by 0 (0x61 ∷ []) 1
    ∷ won_by 1 (0xE40 ∷ 0xE01 ∷ 0xE47 ∷ 0xE01 ∷ []) 4
    ∷ won_by 2 (0xE40 ∷ 0xE01 ∷ 0xE01 ∷ 0xE32 ∷ 0xE30 ∷ []) 5
    ∷ won_by 3 (0xE40 ∷ 0xE01 ∷ 0xE01 ∷ 0xE35 ∷ 0xE22 ∷ 0xE30 ∷ []) 6
    ∷ won_by 4 (0xE40 ∷ 0xE01 ∷ 0xE01 ∷ 0xE47 ∷ 0xE01 ∷ []) 5
    ∷ won_by 5 (0xE40 ∷ 0xE01 ∷ 0xE34 ∷ 0xE01 ∷ 0xE4C ∷ 0xE01 ∷ []) 6
    ∷ won_by 6 (0xE40 ∷ 0xE01 ∷ 0xE34 ∷ 0xE01 ∷ []) 4
    ∷ won_by 7 (0xE40 ∷ 0xE01 ∷ 0xE35 ∷ 0xE22 ∷ []) 4
    ∷ won_by 8 (0xE40 ∷ 0xE01 ∷ 0xE37 ∷ 0xE2D ∷ []) 4
    ∷ won_by 9 (0xE40 ∷ 0xE01 ∷ 0xE32 ∷ []) 3
    ∷ won_by 10 (0xE01 ∷ 0xE31 ∷ 0xE27 ∷ 0xE30 ∷ []) 4
    ∷ won_by 11 (0xE01 ∷ 0xE31 ∷ 0xE01 ∷ []) 3
    ∷ won_by 12 (0xE01 ∷ 0xE34 ∷ 0xE4C ∷ []) 3
    ∷ won_by 13 (0xE01 ∷ 0xE35 ∷ []) 2
    ∷ won_by 14 (0xE01 ∷ 0xE23 ∷ 0xE23 ∷ 0xE01 ∷ 0xE4C ∷ 0x20 ∷ 0xE47 ∷ []) 7
    ∷ won_by 15 (0xE01 ∷ 0xE47 ∷ []) 2
    ∷ won_by 16 (0xE01 ∷ []) 1
    ∷ won_by 18 (0xE41 ∷ 0xE01 ∷ 0xE47 ∷ 0xE01 ∷ []) 4
    ∷ won_by 19 (0xE41 ∷ 0xE01 ∷ 0xE01 ∷ 0xE4C ∷ []) 4
    ∷ won_by 20 (0xE41 ∷ 0xE01 ∷ 0xE30 ∷ []) 3
    ∷ won_by 21 (0xE41 ∷ 0xE01 ∷ 0xE01 ∷ 0xE47 ∷ 0xE01 ∷ []) 5
    ∷ won_by 22 (0xE41 ∷ 0xE01 ∷ 0xE01 ∷ 0xE01 ∷ 0xE4C ∷ []) 5
    ∷ won_by 23 (0xE42 ∷ 0xE01 ∷ 0xE30 ∷ []) 3
    ∷ won_by 24 (0xE44 ∷ 0xE01 ∷ []) 2
    ∷ []

abbrev pub TheOthersWin : Type 0
TheOthersWin = All Right wins

-- A match of 6, and one of 7, that is made shorter. Both are told as what they are.
abbrev pub shortened : List Case
shortened =
    -- เดิยก์
    record {
      text = 0xE40 ∷ 0xE14 ∷ 0xE34 ∷ 0xE22 ∷ 0xE01 ∷ 0xE4C ∷ [];
      ends = 5 ∷ 6 ∷ [];
      winners = 6 ∷ 0 ∷ [];
    }
    -- เมียนต์
    ∷ record {
      text = 0xE40 ∷ 0xE21 ∷ 0xE35 ∷ 0xE22 ∷ 0xE19 ∷ 0xE15 ∷ 0xE4C ∷ [];
      ends = 6 ∷ 7 ∷ [];
      winners = 7 ∷ 0 ∷ [];
    }
    ∷ []

abbrev pub ToldAsTheyAre : Type 0
ToldAsTheyAre = All Right shortened

-- ONLY MATCHES OF 6 AND 7 ARE EVER SHORTENED: where a cluster ends elsewhere than its match.
abbrev pub OnlySixAndSeven : Type 0
OnlySixAndSeven =
    (text : List ℕ) (p e : ℕ)
    → match (first_of alternatives) text p ≡ upto e
    → (cluster_end text p ≡ e → ⊥)
    → (winner alternatives text p ≡ 6) ⊎ (winner alternatives text p ≡ 7)

-- The look-ahead needs no table of its own: it is the last two alternatives.
abbrev pub LastTwo : Type 0
LastTwo = drop 27 alternatives ≡ lookahead
