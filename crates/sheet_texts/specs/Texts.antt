-- 01, "Program": what is written for a reply.
use Rattle.std.specs.Prelude.{ℕ, zero, suc, ◌+◌, ◌/◌, ◌%◌, cond, List, [], ◌∷◌, ◌++◌, ltb, length, take}
use Rattle.refusal.specs.Numbers.{number_of, detail_of}
use Rattle.sheet_texts.specs.declared.Reply.{Reply}
use Rattle.sheet_texts.specs.declared.Reply.TheVariants.{Unknown, Report, Ends, Refused}
use Rattle.sheet_bytes.specs.Lines.{laid}

-- at most so many digits
unfoldable pub decimal_in : ℕ → ℕ → List ℕ
decimal_in zero n = []
decimal_in (suc most) n = cond (ltb n 10) ((48 + n) ∷ []) (decimal_in most (n / 10) ++ ((48 + n % 10) ∷ []))

-- A number in decimal. Twenty digits are enough for every number of 64 bits.
abbrev pub decimal : ℕ → List ℕ
decimal n = decimal_in 20 n

-- The ends with single spaces.
abbrev pub behind_other : List ℕ → List ℕ
behind_other [] = []
behind_other (e ∷ es) = (32 ∷ decimal e) ++ behind_other es

abbrev pub spaced : List ℕ → List ℕ
spaced [] = []
spaced (e ∷ es) = decimal e ++ behind_other es

-- `?`; 0 or 1; the ends; or `! number detail`
abbrev pub text_of_reply : Reply → List ℕ → List ℕ
text_of_reply Unknown ends = 63 ∷ []
text_of_reply (Report n) ends = decimal n
text_of_reply (Ends n) ends = spaced (take n ends)
text_of_reply (Refused r) ends = (((33 ∷ 32 ∷ []) ++ decimal (number_of r)) ++ (32 ∷ [])) ++ decimal (detail_of r)

-- Every answer ends with a line feed.
abbrev pub line_of : Reply → List ℕ → List ℕ
line_of reply ends = text_of_reply reply ends ++ (10 ∷ [])

-- a text at the front of a row, as far as there is room, and how many bytes that is
abbrev pub written : List ℕ → List ℕ → List ℕ
written text row = laid (take (length row) text) row

abbrev pub amount : List ℕ → List ℕ → ℕ
amount text row = length (take (length row) text)
