-- One record for each token of a text, in a mode (02, ticket 2).
use Rattle.std.specs.Prelude.{ℕ, ◌+◌, cond, List, [], ◌∷◌, ◌++◌, map, length, ltb}
use Rattle.trie_pool.specs.Meaning.{Words}
use Rattle.newmm_rules.specs.Limits.{text_scan_end}
use Rattle.newmm_rules.specs.declared.Mode.{Mode}
use Rattle.newmm_rules.specs.declared.Mode.TheVariants.{Plain, Safe, Sheet}
use Rattle.newmm_rules.specs.Parts.{Cutter, last_part, runs_of}
use Rattle.newmm_rules.specs.Modes.{unshifted, behind_space}
use Rattle.newmm_reason_rules.specs.Reasons.{Told, told_from}
use Rattle.newmm_answers.specs.Answers.{given, plain_cut}

-- The parts of a text, each of which is cut plainly by itself: below 140 characters the text
-- itself. An empty text has none.
abbrev pub parts_by : (ℕ → ℕ) → Cutter → List ℕ → List (List ℕ)
parts_by space_cut plain text =
    cond (ltb (length text) text_scan_end) (last_part text) (runs_of (length text) space_cut plain text).parts

abbrev pub parts_of : Mode → Cutter → List ℕ → List (List ℕ)
parts_of Plain plain text = last_part text
parts_of Safe plain text = parts_by unshifted plain text
parts_of Sheet plain text = parts_by behind_space plain text

-- a token of a part that starts at `start`, in the whole text
abbrev pub moved : ℕ → Told → Told
moved start t = record { end = start + t.end; reason = t.reason }

-- In safe mode the reason is about the part: what is told of a part is told of it as a text by
-- itself, with its own cluster ends.
unfoldable pub told_part : Words → ℕ → List ℕ → List Told
told_part words start part = map (moved start) (told_from (given words part) 0 (plain_cut words part).ends)

unfoldable pub told_parts : Words → ℕ → List (List ℕ) → List Told
told_parts words start [] = []
told_parts words start (part ∷ parts) = told_part words start part ++ told_parts words (start + length part) parts

unfoldable pub told_of : Mode → Words → List ℕ → List Told
told_of mode words text = told_parts words 0 (parts_of mode (plain_cut words) text)
