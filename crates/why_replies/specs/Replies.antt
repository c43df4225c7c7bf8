-- 02, ticket 2: what a line of `why_lines` asks, what is written for it, and what becomes of the
-- rows that are lent.
use Rattle.std.specs.Prelude.{ℕ, ◌/◌, ◌≡◌, Bool, false, cond, List, eqb, ltb, length, get_or, Option, None, Some}
use Rattle.refusal.specs.Answers.{output}
use Rattle.utf8.specs.Decoding.{scalars_of, Room, room_in}
use Rattle.utf8.specs.Positions.{positions_of}
use Rattle.trie_pool.specs.Meaning.{meaning}
use Rattle.trie_check.specs.Refusals.{held}
use Rattle.newmm_rules.specs.declared.Mode.{Mode}
use Rattle.newmm_rules.specs.declared.Mode.TheVariants.{Sheet}
use Rattle.newmm_reasons_answers.specs.Told.{told_of}
use Rattle.newmm_reasons_answers.specs.Answers.{pairs as pairs_of}
use Rattle.sheet_replies.specs.declared.Asked.{Asked}
use Rattle.sheet_replies.specs.declared.Asked.TheVariants.{Nothing, Add, Remove, Cut}
use Rattle.sheet_replies.specs.Replies as lines
use Rattle.why_texts.specs.Texts.{why_text}

-- A line of at most 1,024 bytes that starts with `#`.
abbrev pub asks_sheet : List ℕ → Bool
asks_sheet line =
    cond (eqb (length line) 0) false (cond (ltb 1024 (length line)) false (eqb (get_or line 0 0) 35))

-- Lines as in `sheet_lines`, and `#` for the profile "sheet".
unfoldable pub asked : List ℕ → Asked
asked line = cond (asks_sheet line) (Cut Sheet) (lines.asked line)

-- how the text is cut by what is asked, if it is
abbrev pub Cutting : Type 0
Cutting = Option Mode

abbrev pub cutting_by : Asked → Cutting
cutting_by Nothing = None
cutting_by Add = None
cutting_by Remove = None
cutting_by (Cut mode) = Some mode

-- The end and the reason of each token of a cut stand at the front of their row. A row of so many
-- cells has room for half as many pairs.
unfoldable pub pairs_after : Asked → (text pool : List ℕ) → Room → ℕ → List ℕ → List ℕ
pairs_after Nothing text pool room cells row = row
pairs_after Add text pool room cells row = row
pairs_after Remove text pool room cells row = row
pairs_after (Cut mode) text pool room cells row =
    output (lines.cut_text mode text pool room cells (length row / 2))
    (pairs_of (told_of mode (held (meaning pool)) (scalars_of text))) row

-- the rows that are lent to a line, before and after: all but the pairs as in `sheet_lines`
pub record RowsAfter (what : Asked)
    (text pool pool₁ scalars scalars₁ positions positions₁ pairs pairs₁ scratch scratch₁ : List ℕ) : Type 0 where
  pub pool_is : lines.PoolAfter what text pool pool₁ (room_in scalars positions)
  pub scalars_are : scalars₁ ≡ lines.decoded_after what text (room_in scalars positions) (scalars_of text) scalars
  pub positions_are :
      positions₁ ≡ lines.decoded_after what text (room_in scalars positions) (positions_of text) positions
  pub pairs_are : pairs₁ ≡ pairs_after what text pool (room_in scalars positions) (length scratch) pairs
  pub scratch_is : scratch₁ ≡ lines.scratch_after what text pool (room_in scalars positions) scratch

-- What is written for a line, by the rows of the call: the reply is that of `sheet_lines`, and a
-- cut's tokens are told with the text, its positions and the pairs. `cells` is the length of
-- scratch.
unfoldable pub explained_by : Asked → (text pool scalars positions pairs : List ℕ) → ℕ → List ℕ
explained_by what text pool scalars positions pairs cells =
    why_text (lines.reply_to what text pool (room_in scalars positions) cells (length pairs / 2)) text
    (lines.decoded_after what text (room_in scalars positions) (positions_of text) positions)
    (pairs_after what text pool (room_in scalars positions) cells pairs)

abbrev pub explained : (line pool scalars positions pairs : List ℕ) → ℕ → List ℕ
explained line pool scalars positions pairs cells =
    explained_by (asked line) (lines.text_of line) pool scalars positions pairs cells
