-- 01, "Program": a whole run, from all bytes that are read to all bytes that are written.
use Rattle.std.specs.Prelude.{ℕ, suc, ◌-◌, Bool, true, false, not, cond, ◌||◌, ◌≡◌, List, [], ◌∷◌, ◌++◌, map, eqb, ltb, length, take, drop, Result, Ok, Err}
use Rattle.std.proofs.Math.Option.{some}
use Rattle.refusal.specs.declared.Refusal.{Refusal}
use Rattle.refusal.specs.declared.Refusal.TheVariants.{IllFormed, TooFewNodes}
use Rattle.refusal.specs.Numbers.{number_of}
use Rattle.refusal.specs.Answers.{Cause, answer}
use Rattle.utf8.specs.Decoding.{run_all, scalars_of}
use Rattle.char_string_trim.specs.Trimming.{trimmed_of}
use Rattle.trie_pool.specs.Meaning.{Words, terms, same, report, classless}
use Rattle.trie_char_answers.specs.Refusals.{length_causes}
use Rattle.newmm_rules.specs.declared.Mode.{Mode}
use Rattle.newmm_answers.specs.Answers.{cut_of}
use Rattle.sheet_replies.specs.declared.Asked.{Asked}
use Rattle.sheet_replies.specs.declared.Asked.TheVariants.{Nothing, Add, Remove, Cut}
use Rattle.sheet_texts.specs.declared.Reply.{Reply}
use Rattle.sheet_texts.specs.declared.Reply.TheVariants.{Unknown, Refused}
use Rattle.sheet_input.specs.declared.Fed.{Fed}
use Rattle.sheet_replies.specs.Replies.{asked, text_of, reported, ended}
use Rattle.sheet_texts.specs.Texts.{line_of}

-- ---- lines

-- A last line without a line feed counts like any other; no bytes after the last line feed are
-- no line.
abbrev pub last_line : List ℕ → List (List ℕ)
last_line [] = []
last_line (b ∷ line) = (b ∷ line) ∷ []

-- the lines of the bytes, where the first bytes of the first line stand before them
unfoldable pub lines_from : List ℕ → List ℕ → List (List ℕ)
lines_from line [] = last_line line
lines_from line (b ∷ bytes) = cond (eqb b 10) (line ∷ lines_from [] bytes) (lines_from (line ++ (b ∷ [])) bytes)

-- ---- the words that are held, one by one

unfoldable pub among : List (List ℕ) → Words
among [] v = false
among (w ∷ words) v = same v w || among words v

-- A word empty after trimming changes nothing.
abbrev pub including : List ℕ → List (List ℕ) → List (List ℕ)
including [] words = words
including (x ∷ w) words = (x ∷ w) ∷ words

abbrev pub excluding : List ℕ → List (List ℕ) → List (List ℕ)
excluding w [] = []
excluding w (v ∷ words) = cond (same v w) (excluding w words) (v ∷ excluding w words)

-- the non-empty prefixes of a word
abbrev pub prefixes_of : List ℕ → List (List ℕ)
prefixes_of [] = []
prefixes_of (x ∷ w) = (x ∷ []) ∷ map (λ (v : List ℕ). x ∷ v) (prefixes_of w)

-- a word more, where the list has it not
abbrev pub or_new : List ℕ → List (List ℕ) → List (List ℕ)
or_new v words = cond (among words v) words (v ∷ words)

abbrev pub all_new : List (List ℕ) → List (List ℕ) → List (List ℕ)
all_new [] words = words
all_new (v ∷ vs) words = or_new v (all_new vs words)

-- each distinct non-empty prefix of the words
abbrev pub prefixes : List (List ℕ) → List (List ℕ)
prefixes [] = []
prefixes (w ∷ words) = all_new (prefixes_of w) (prefixes words)

-- Nodes in use are the root and one for each distinct non-empty prefix of the words held.
unfoldable pub nodes : List (List ℕ) → ℕ
nodes words = suc (length (prefixes words))

-- ---- what a line is answered, by the words that are held

-- 1: the bytes aren't well-formed UTF-8; length of the longest well-formed prefix.
abbrev pub form_causes : List ℕ → List Cause
form_causes text = record { refusal = IllFormed (run_all text).taken; holds = not (run_all text).whole } ∷ []

-- 8: the pool of 2,048 nodes has too few free nodes; nodes missing.
abbrev pub room_causes : List ℕ → List (List ℕ) → List Cause
room_causes w words =
    record {
      refusal = TooFewNodes (nodes (including w words) - 2048);
      holds = ltb 2048 (nodes (including w words));
    } ∷ []

-- the word of a text: its scalars, trimmed
abbrev pub word_of : List ℕ → List ℕ
word_of text = trimmed_of (scalars_of text)

-- An addition can be refused with 1, 7 and 8 alone, a removal with 1 and 7, a cut with 1.
abbrev pub added_in : List ℕ → List (List ℕ) → Result ℕ Refusal
added_in text words =
    answer (form_causes text ++ (length_causes (scalars_of text) ++ room_causes (word_of text) words))
    (report (word_of text) (among words) (among (including (word_of text) words)))

abbrev pub removed_in : List ℕ → List (List ℕ) → Result ℕ Refusal
removed_in text words =
    answer (form_causes text ++ length_causes (scalars_of text))
    (report (word_of text) (among words) (among (excluding (word_of text) words)))

abbrev pub ends_in : Mode → List ℕ → List (List ℕ) → List ℕ
ends_in mode text words = (cut_of mode (among words) (scalars_of text)).ends

abbrev pub cut_in : Mode → List ℕ → List (List ℕ) → Result ℕ Refusal
cut_in mode text words = answer (form_causes text) (length (ends_in mode text words))

unfoldable pub reply_in : Asked → List ℕ → List (List ℕ) → Reply
reply_in Nothing text words = Unknown
reply_in Add text words = reported (added_in text words)
reply_in Remove text words = reported (removed_in text words)
reply_in (Cut mode) text words = ended (cut_in mode text words)

-- the ends that are written
unfoldable pub told_ends : Asked → List ℕ → List (List ℕ) → List ℕ
told_ends Nothing text words = []
told_ends Add text words = []
told_ends Remove text words = []
told_ends (Cut mode) text words = ends_in mode text words

-- A refusal changes no words.
abbrev pub if_accepted : Result ℕ Refusal → List (List ℕ) → List (List ℕ) → List (List ℕ)
if_accepted (Ok n) new words = new
if_accepted (Err r) new words = words

-- the words behind a line
unfoldable pub words_in : Asked → List ℕ → List (List ℕ) → List (List ℕ)
words_in Nothing text words = words
words_in Add text words = if_accepted (added_in text words) (including (word_of text) words) words
words_in Remove text words = if_accepted (removed_in text words) (excluding (word_of text) words) words
words_in (Cut mode) text words = words

abbrev pub words_behind : List ℕ → List (List ℕ) → List (List ℕ)
words_behind line words = words_in (asked line) (text_of line) words

-- the text that is written for a line
abbrev pub told_for : List ℕ → List (List ℕ) → List ℕ
told_for line words = line_of (reply_in (asked line) (text_of line) words) (told_ends (asked line) (text_of line) words)

-- ---- the run

-- the replies to lines, one behind the other, each by the words that those before it leave
unfoldable pub replies : List (List ℕ) → List (List ℕ) → List ℕ
replies words [] = []
replies words (line ∷ lines) = told_for line words ++ replies (words_behind line words) lines

-- what is still to be written, where the first bytes of a line have been read
abbrev pub left : List (List ℕ) → List ℕ → List ℕ → List ℕ
left words line bytes = replies words (lines_from line bytes)

-- all bytes that are read to all bytes that are written, from a pool without a word
abbrev pub run : List ℕ → List ℕ
run bytes = left [] [] bytes

-- ---- a run in parts

-- What the rows hold between two calls: the first bytes of the line that has begun, and the pool
-- of the words, all without a class. 1,025 bytes of a line are kept, one more than a line may have.
pub record Holds (row : List ℕ) (kept : ℕ) (pool begun : List ℕ) (words : List (List ℕ)) : Type 0 where
  pub bytes : take kept row ≡ take 1025 begun
  pub size : kept ≡ length (take 1025 begun)
  pub means : terms pool ≡ some (classless (among words))

-- What a call leaves: rows that hold a line that has begun and words, so that what was to be
-- written is what the call wrote and then what is left.
pub record Leaves (bytes : List ℕ) (taken : ℕ) (text row : List ℕ) (kept : ℕ) (pool begun : List ℕ)
    (words : List (List ℕ)) : Type 0 where
  pub begun₁ : List ℕ
  pub words₁ : List (List ℕ)
  pub holds : Holds row kept pool begun₁ words₁
  pub run_on : (more : List ℕ)
      → left words begun (bytes ++ more) ≡ text ++ left words₁ begun₁ (drop taken bytes ++ more)

abbrev pub Stepped : List ℕ → List ℕ → ℕ → List ℕ → List ℕ → List ℕ → List ℕ → Fed → Type 0
Stepped bytes row kept pool row₁ pool₁ out r =
    (begun : List ℕ) (words : List (List ℕ)) → Holds row kept pool begun words
    → Leaves bytes r.taken (take r.written out) row₁ r.kept pool₁ begun words

-- the last call, at the end of the input
abbrev pub Finished : List ℕ → ℕ → List ℕ → List ℕ → ℕ → Type 0
Finished row kept pool out n =
    (begun : List ℕ) (words : List (List ℕ)) → Holds row kept pool begun words → left words begun [] ≡ take n out

-- Calls one behind the other, from rows on, over an input, and all that they write. Each is lent
-- any part of what is left of the input.
pub data Calls : List ℕ → ℕ → List ℕ → List ℕ → List ℕ → Type 0 where
  step : {row pool output : List ℕ} {kept : ℕ} (part more row₁ pool₁ out : List ℕ) (r : Fed)
      → Stepped part row kept pool row₁ pool₁ out r
      → Calls row₁ r.kept pool₁ (drop r.taken part ++ more) output
      → Calls row kept pool (part ++ more) (take r.written out ++ output)
  last : {row pool : List ℕ} {kept : ℕ} (out : List ℕ) (n : ℕ)
      → Finished row kept pool out n
      → Calls row kept pool [] (take n out)

-- Of the refusals only 1, 7 and 8 can appear in a run, whatever a line asks and whatever words are
-- held.
pub data Possible : ℕ → Type 0 where
  one : Possible 1
  seven : Possible 7
  eight : Possible 8

abbrev pub OnlyThese : Type 0
OnlyThese =
    (k : Asked) (text : List ℕ) (words : List (List ℕ)) (r : Refusal)
    → reply_in k text words ≡ Refused r
    → Possible (number_of r)
