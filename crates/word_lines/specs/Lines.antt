-- The lines of a word list: what a line says, what adding it answers, and the line of a word.
use Rattle.std.specs.Prelude.{ℕ, suc, ◌+◌, ◌*◌, ◌-◌, ◌≡◌, Bool, true, false, cond, not, ◌&&◌, List, [], ◌∷◌, ◌++◌, eqb, leb, ltb, length, take, drop, Result, Ok, Err}
use Rattle.refusal.specs.declared.Refusal.{Refusal}
use Rattle.lists.specs.Scans.{leading, within}
use Rattle.refusal.specs.Answers.{output}
use Rattle.utf8.specs.Decoding.{scalars_of, Room, decoded}
use Rattle.trie_pool.specs.Meaning.{Terms}
use Rattle.trie_pool.specs.Cells.{max_class}
use Rattle.trie_char_answers.specs.Answers.{add_answer}
use Rattle.trie_char_answers.specs.Changes.{After}
use Rattle.sheet_texts.specs.Texts.{decimal}
use Rattle.sheet_replies.specs.Replies.{next}
use Rattle.word_lines.specs.declared.LineError.{LineError}
use Rattle.word_lines.specs.declared.LineError.TheVariants.{NoClass, Refused}

-- where the first tab stands, or the length where there is none
abbrev pub tab_in : List ℕ → ℕ
tab_in line = leading (λ (b : ℕ). not (eqb b 9)) line

-- more than every class
abbrev pub no_class : ℕ
no_class = 65536

-- A class with one digit more; none where the byte is no digit, or the class is over 65,535.
unfoldable pub with_digit : ℕ → ℕ → ℕ
with_digit n b = cond (within 48 57 b && leb (10 * n + (b - 48)) max_class) (10 * n + (b - 48)) no_class

unfoldable pub digits_from : ℕ → List ℕ → ℕ
digits_from n [] = n
digits_from n (b ∷ bytes) = digits_from (with_digit n b) bytes

-- The class that a text is in decimal: digits, one or more of them.
unfoldable pub number_in : List ℕ → ℕ
number_in text = cond (eqb (length text) 0) no_class (digits_from 0 text)

-- The class stands behind the tab. It is 0 where there is no tab.
unfoldable pub class_behind : List ℕ → ℕ → ℕ
class_behind line tab = cond (leb (length line) tab) 0 (number_in (drop (suc tab) line))

abbrev pub class_of : List ℕ → ℕ
class_of line = class_behind line (tab_in line)

-- The word is what stands before the tab.
abbrev pub word_of : List ℕ → List ℕ
word_of line = take (tab_in line) line

-- A line says a word with its class, unless something else than a class stands behind its tab.
abbrev pub is_term : List ℕ → Bool
is_term line = leb (class_of line) max_class

-- The word is decoded first, then added with its class, by the dictionary's own call.
abbrev pub add_term : List ℕ → ℕ → List ℕ → Room → Result ℕ Refusal
add_term word class pool room = next (decoded word room) (add_answer (scalars_of word) class pool)

-- What became of a line: what adding its word answers, or no class stands behind its tab.
abbrev pub Taken : Type 0
Taken = Result ℕ LineError

abbrev pub answered : Result ℕ Refusal → Taken
answered (Ok n) = Ok n
answered (Err r) = Err (Refused r)

abbrev pub taken_by : Bool → Result ℕ Refusal → Taken
taken_by true a = answered a
taken_by false a = Err NoClass

abbrev pub taken : List ℕ → List ℕ → Room → Taken
taken line pool room = taken_by (is_term line) (add_term (word_of line) (class_of line) pool room)

-- What becomes of the pool, and of a row that decoding writes.
abbrev pub PoolBy : Bool → Result ℕ Refusal → List ℕ → List ℕ → Terms → Type 0
PoolBy true a old new held = After a old new held
PoolBy false a old new held = new ≡ old

abbrev pub row_by : Bool → Result ℕ Refusal → List ℕ → List ℕ → List ℕ
row_by true a told row = output a told row
row_by false a told row = row

-- A word, a tab and its class where that is not 0, and a line feed.
abbrev pub class_part : Bool → ℕ → List ℕ
class_part true class = []
class_part false class = (9 ∷ []) ++ decimal class

unfoldable pub term_line : List ℕ → ℕ → List ℕ
term_line word class = (word ++ class_part (eqb class 0) class) ++ (10 ∷ [])
