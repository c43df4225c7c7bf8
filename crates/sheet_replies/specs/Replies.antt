-- 01, "Program": what a line asks, the reply to it, and what becomes of the rows that are lent.
use Rattle.std.specs.Prelude.{ℕ, ◌≡◌, cond, List, eqb, ltb, length, get_or, drop, Result, Ok, Err}
use Rattle.newmm_rules.specs.declared.Ends.{Ends as CutEnds}
use Rattle.refusal.specs.declared.Refusal.{Refusal}
use Rattle.refusal.specs.Answers.{answer, output}
use Rattle.utf8.specs.Decoding.{scalars_of, Room, room_in, decoded}
use Rattle.utf8.specs.Positions.{positions_of}
use Rattle.trie_pool.specs.Meaning.{meaning}
use Rattle.trie_check.specs.Refusals.{held}
use Rattle.trie_char_answers.specs.Answers.{add_answer, added, remove_answer, removed}
use Rattle.trie_char_answers.specs.Changes.{After}
use Rattle.newmm_rules.specs.declared.Mode.{Mode}
use Rattle.newmm_rules.specs.declared.Mode.TheVariants.{Plain, Safe}
use Rattle.newmm_answers.specs.Answers.{cut_of, first_causes, accepts, cleared}
use Rattle.sheet_replies.specs.declared.Asked.{Asked}
use Rattle.sheet_replies.specs.declared.Asked.TheVariants.{Nothing, Add, Remove, Cut}
use Rattle.sheet_texts.specs.declared.Reply.{Reply}
use Rattle.sheet_texts.specs.declared.Reply.TheVariants.{Unknown, Report, Ends, Refused}

-- `+` adds, `-` removes, `=` cuts plainly, `~` safely. Another first byte asks nothing.
abbrev pub asked_by : ℕ → Asked
asked_by op =
    cond (eqb op 43) Add
    (cond (eqb op 45) Remove (cond (eqb op 61) (Cut Plain) (cond (eqb op 126) (Cut Safe) Nothing)))

-- An empty line, or one of more than 1,024 bytes, asks nothing.
abbrev pub asked : List ℕ → Asked
asked line = cond (eqb (length line) 0) Nothing (cond (ltb 1024 (length line)) Nothing (asked_by (get_or line 0 0)))

-- The text is decoded first. `room` is the number of cells for its scalars and for their positions.
abbrev pub next : Result ℕ Refusal → Result ℕ Refusal → Result ℕ Refusal
next (Ok n) a = a
next (Err r) a = Err r

-- An addition, without a class, and a removal: the answer of the dictionary's own call for the
-- decoded text.
abbrev pub add_text : List ℕ → List ℕ → Room → Result ℕ Refusal
add_text text pool room = next (decoded text room) (add_answer (scalars_of text) 0 pool)

abbrev pub remove_text : List ℕ → List ℕ → Room → Result ℕ Refusal
remove_text text pool room = next (decoded text room) (remove_answer (scalars_of text) pool)

-- A cut: accepted with the number of ends.
abbrev pub cut_text : Mode → List ℕ → List ℕ → Room → ℕ → ℕ → Result ℕ Refusal
cut_text mode text pool room cells places =
    next (decoded text room) (accepts mode (scalars_of text) (meaning pool) cells places)

-- It writes 0 or 1, the ends, or `! number detail`.
abbrev pub reported : Result ℕ Refusal → Reply
reported (Ok n) = Report n
reported (Err r) = Refused r

abbrev pub ended : Result ℕ Refusal → Reply
ended (Ok n) = Ends n
ended (Err r) = Refused r

abbrev pub ended_by : Result CutEnds Refusal → Reply
ended_by (Ok told) = Ends told.ends
ended_by (Err r) = Refused r

-- the reply to a text by what is asked; the rows for decoding, scratch and ends have so many cells
unfoldable pub reply_to : Asked → List ℕ → List ℕ → Room → ℕ → ℕ → Reply
reply_to Nothing text pool room cells places = Unknown
reply_to Add text pool room cells places = reported (add_text text pool room)
reply_to Remove text pool room cells places = reported (remove_text text pool room)
reply_to (Cut mode) text pool room cells places = ended (cut_text mode text pool room cells places)

-- the rest of the line is the text
abbrev pub text_of : List ℕ → List ℕ
text_of line = drop 1 line

abbrev pub reply_of : List ℕ → List ℕ → Room → ℕ → ℕ → Reply
reply_of line pool room cells places = reply_to (asked line) (text_of line) pool room cells places

-- An addition and a removal change the pool as the dictionary's own calls do; nothing else
-- changes it.
unfoldable pub PoolAfter : Asked → List ℕ → List ℕ → List ℕ → Room → Type 0
PoolAfter Nothing text old new room = new ≡ old
PoolAfter Add text old new room = After (add_text text old room) old new (added (scalars_of text) 0 old)
PoolAfter Remove text old new room = After (remove_text text old room) old new (removed (scalars_of text) old)
PoolAfter (Cut mode) text old new room = new ≡ old

-- What is decoded of a text, its scalars or their positions, stands at the front of its row.
unfoldable pub decoded_after : Asked → List ℕ → Room → (written row : List ℕ) → List ℕ
decoded_after Nothing text room written row = row
decoded_after Add text room written row = output (decoded text room) written row
decoded_after Remove text room written row = output (decoded text room) written row
decoded_after (Cut mode) text room written row = output (decoded text room) written row

-- The ends of a cut stand at the front of theirs.
unfoldable pub ends_after : Asked → List ℕ → List ℕ → Room → ℕ → List ℕ → List ℕ
ends_after Nothing text pool room cells row = row
ends_after Add text pool room cells row = row
ends_after Remove text pool room cells row = row
ends_after (Cut mode) text pool room cells row =
    output (cut_text mode text pool room cells (length row))
    (cut_of mode (held (meaning pool)) (scalars_of text)).ends row

-- Scratch is all zero where there was a cut.
unfoldable pub scratch_after : Asked → List ℕ → List ℕ → Room → List ℕ → List ℕ
scratch_after Nothing text pool room row = row
scratch_after Add text pool room row = row
scratch_after Remove text pool room row = row
scratch_after (Cut mode) text pool room row =
    cleared (next (decoded text room) (answer (first_causes (scalars_of text) (meaning pool) (length row)) 0)) row

-- the rows that are lent to a line, before and after
pub record RowsAfter (what : Asked)
    (text pool pool₁ scalars scalars₁ positions positions₁ ends ends₁ scratch scratch₁ : List ℕ) : Type 0 where
  pub pool_is : PoolAfter what text pool pool₁ (room_in scalars positions)
  pub scalars_are : scalars₁ ≡ decoded_after what text (room_in scalars positions) (scalars_of text) scalars
  pub positions_are : positions₁ ≡ decoded_after what text (room_in scalars positions) (positions_of text) positions
  pub ends_are : ends₁ ≡ ends_after what text pool (room_in scalars positions) (length scratch) ends
  pub scratch_is : scratch₁ ≡ scratch_after what text pool (room_in scalars positions) scratch
