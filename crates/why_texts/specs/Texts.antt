-- 02, ticket 2, for the people who ask: one line a token, with the token's text, its end, and why
-- in plain words.
use Rattle.std.specs.Prelude.{ℕ, ◌*◌, ◌-◌, cond, List, [], ◌∷◌, ◌++◌, eqb, get_or, take, drop}
use Rattle.newmm_reason_rules.specs.Reasons.{Told, dictionary_word, non_thai_run, to_word, to_non_thai}
use Rattle.sheet_texts.specs.declared.Reply.{Reply}
use Rattle.sheet_texts.specs.declared.Reply.TheVariants.{Unknown, Report, Ends, Refused}
use Rattle.sheet_texts.specs.Texts.{decimal, line_of}

-- `word`
abbrev pub word : List ℕ
word =
    119 ∷ 111 ∷ 114 ∷ 100 ∷ []

-- `run of letters, digits or blanks`
abbrev pub run : List ℕ
run =
    114 ∷ 117 ∷ 110 ∷ 32 ∷ 111 ∷ 102 ∷ 32 ∷ 108 ∷ 101 ∷ 116 ∷ 116 ∷ 101 ∷ 114 ∷ 115 ∷ 44 ∷ 32 ∷ 100 ∷ 105 ∷ 103 ∷
    105 ∷ 116 ∷ 115 ∷ 32 ∷ 111 ∷ 114 ∷ 32 ∷ 98 ∷ 108 ∷ 97 ∷ 110 ∷ 107 ∷ 115 ∷ []

-- `no word here: skipped to the word at `
abbrev pub to_the_word : List ℕ
to_the_word =
    110 ∷ 111 ∷ 32 ∷ 119 ∷ 111 ∷ 114 ∷ 100 ∷ 32 ∷ 104 ∷ 101 ∷ 114 ∷ 101 ∷ 58 ∷ 32 ∷ 115 ∷ 107 ∷ 105 ∷ 112 ∷ 112 ∷
    101 ∷ 100 ∷ 32 ∷ 116 ∷ 111 ∷ 32 ∷ 116 ∷ 104 ∷ 101 ∷ 32 ∷ 119 ∷ 111 ∷ 114 ∷ 100 ∷ 32 ∷ 97 ∷ 116 ∷ 32 ∷ []

-- `no word here: skipped to the run at `
abbrev pub to_the_run : List ℕ
to_the_run =
    110 ∷ 111 ∷ 32 ∷ 119 ∷ 111 ∷ 114 ∷ 100 ∷ 32 ∷ 104 ∷ 101 ∷ 114 ∷ 101 ∷ 58 ∷ 32 ∷ 115 ∷ 107 ∷ 105 ∷ 112 ∷ 112 ∷
    101 ∷ 100 ∷ 32 ∷ 116 ∷ 111 ∷ 32 ∷ 116 ∷ 104 ∷ 101 ∷ 32 ∷ 114 ∷ 117 ∷ 110 ∷ 32 ∷ 97 ∷ 116 ∷ 32 ∷ []

-- `no word here: skipped to the end`
abbrev pub to_the_end : List ℕ
to_the_end =
    110 ∷ 111 ∷ 32 ∷ 119 ∷ 111 ∷ 114 ∷ 100 ∷ 32 ∷ 104 ∷ 101 ∷ 114 ∷ 101 ∷ 58 ∷ 32 ∷ 115 ∷ 107 ∷ 105 ∷ 112 ∷ 112 ∷
    101 ∷ 100 ∷ 32 ∷ 116 ∷ 111 ∷ 32 ∷ 116 ∷ 104 ∷ 101 ∷ 32 ∷ 101 ∷ 110 ∷ 100 ∷ []

-- Why, in plain words. What a stretch without a word was skipped to stands at the token's end.
unfoldable pub why : (end reason : ℕ) → List ℕ
why end reason =
    cond (eqb reason dictionary_word) word
    (cond (eqb reason non_thai_run) run
    (cond (eqb reason to_word) (to_the_word ++ decimal end)
    (cond (eqb reason to_non_thai) (to_the_run ++ decimal end) to_the_end)))

-- the bytes of a text from one position to another
unfoldable pub bytes_in : (text : List ℕ) (from to : ℕ) → List ℕ
bytes_in text from to = take (to - from) (drop from text)

-- A token's text, its end, and why, with a tab behind each of the first two and a line feed behind
-- the last.
unfoldable pub token_line : (text : List ℕ) (from to : ℕ) → Told → List ℕ
token_line text from to t =
    ((((bytes_in text from to ++ (9 ∷ [])) ++ decimal t.end) ++ (9 ∷ [])) ++ why t.end t.reason) ++ (10 ∷ [])

-- One line a token, the first of which starts at a position: `positions` has the byte position of
-- each end.
unfoldable pub token_lines : (text positions : List ℕ) (from : ℕ) → List Told → List ℕ
token_lines text positions from [] = []
token_lines text positions from (t ∷ ts) =
    token_line text from (get_or positions t.end 0) t ++ token_lines text positions (get_or positions t.end 0) ts

-- the tokens of pairs of cells: end, then reason
unfoldable pub tokens_in : List ℕ → List Told
tokens_in [] = []
tokens_in (e ∷ []) = []
tokens_in (e ∷ r ∷ row) = record { end = e; reason = r } ∷ tokens_in row

-- The lines of a cut with so many tokens. A text without a token is answered with an empty line.
unfoldable pub cut_lines : (text positions pairs : List ℕ) → ℕ → List ℕ
cut_lines text positions pairs n =
    cond (eqb n 0) (10 ∷ []) (token_lines text positions 0 (tokens_in (take (2 * n) pairs)))

-- What is written for a reply: for a cut one line a token, for any other what the line program
-- writes.
abbrev pub why_text : Reply → (text positions pairs : List ℕ) → List ℕ
why_text Unknown text positions pairs = line_of Unknown []
why_text (Report n) text positions pairs = line_of (Report n) []
why_text (Ends n) text positions pairs = cut_lines text positions pairs n
why_text (Refused r) text positions pairs = line_of (Refused r) []
