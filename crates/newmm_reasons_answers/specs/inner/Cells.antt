-- What is told of a token, in one cell of scratch.
use Rattle.std.specs.Prelude.{ℕ, ◌+◌, ◌*◌, ◌/◌, ◌%◌, ◌≡◌, List, [], ◌∷◌, map, length, Result}
use Rattle.std.proofs.Math.Option.{Option}
use Rattle.newmm_rules.specs.declared.Ends.{Ends}
use Rattle.refusal.specs.declared.Refusal.{Refusal}
use Rattle.refusal.specs.Answers.{output}
use Rattle.trie_pool.specs.Meaning.{Words}
use Rattle.trie_check.specs.Refusals.{held}
use Rattle.newmm_rules.specs.Cutting.{Cut}
use Rattle.newmm_rules.specs.declared.Mode.{Mode}
use Rattle.newmm_rules.specs.Modes.{in_parts}
use Rattle.newmm_reason_rules.specs.Reasons.{Told}
use Rattle.newmm_answers.specs.Answers.{plain_cut, cut_of, accepts, cut_answer, scratch_after}
use Rattle.newmm_reasons_answers.specs.Told.{parts_by, told_part, told_parts, told_of}

-- eight times the end, and the reason
abbrev pub cell_of : Told → ℕ
cell_of t = 8 * t.end + t.reason

abbrev pub cells_of : List Told → List ℕ
cells_of ts = map cell_of ts

-- end and reason of each cell
abbrev pub unpacked : List ℕ → List ℕ
unpacked [] = []
unpacked (c ∷ cs) = c / 8 ∷ c % 8 ∷ unpacked cs

-- The cells of a part that starts at `start`, of a text in parts, and of a text in a mode, each
-- with the edges that the cut records.
abbrev pub cells_part : Words → ℕ → List ℕ → List ℕ
cells_part words start part = cells_of (told_part words start part)

abbrev pub part_cells : Words → ℕ → List ℕ → Cut
part_cells words start part = record { ends = cells_part words start part; edges = (plain_cut words part).edges }

abbrev pub cells_by : (ℕ → ℕ) → Words → List ℕ → Cut
cells_by space_cut words text =
    record {
      ends = cells_of (told_parts words 0 (parts_by space_cut (plain_cut words) text));
      edges = (in_parts space_cut (plain_cut words) text).edges;
    }

abbrev pub text_cells : Mode → Words → List ℕ → Cut
text_cells mode words text = record { ends = cells_of (told_of mode words text); edges = (cut_of mode words text).edges }

-- What a call with room for so many records is answered, and what it leaves in scratch, the pool
-- having this meaning: the cells of an accepted call stand at the front, and the rest is as a cut
-- leaves it.
abbrev pub Tells : (text : List ℕ) → Option Words → (scratch : List ℕ) → ℕ → Mode → Result Ends Refusal → List ℕ → Type 0
Tells text m scratch room mode answer after =
    (answer ≡ cut_answer mode text m (length scratch) room)
    × (after ≡
    output (accepts mode text m (length scratch) room) (cells_of (told_of mode (held m) text))
    (scratch_after text m scratch))
