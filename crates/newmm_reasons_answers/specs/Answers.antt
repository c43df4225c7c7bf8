-- The answer of the cut with reasons, and what becomes of the rows that it is lent.
use Rattle.std.specs.Prelude.{ℕ, ◌/◌, List, [], ◌∷◌, length, Result}
use Rattle.std.proofs.Math.Option.{Option}
use Rattle.newmm_rules.specs.declared.Ends.{Ends}
use Rattle.refusal.specs.declared.Refusal.{Refusal}
use Rattle.refusal.specs.Answers.{output}
use Rattle.trie_pool.specs.Meaning.{Words}
use Rattle.trie_check.specs.Refusals.{held}
use Rattle.newmm_rules.specs.declared.Mode.{Mode}
use Rattle.newmm_reason_rules.specs.Reasons.{Told}
use Rattle.newmm_answers.specs.Answers.{accepts, cut_answer}
use Rattle.newmm_reasons_answers.specs.Told.{told_of}

-- Pairs of plain cells: end, then reason.
unfoldable pub pairs : List Told → List ℕ
pairs [] = []
pairs (t ∷ ts) = t.end ∷ t.reason ∷ pairs ts

-- a row of so many cells has room for half as many records, rounded down
abbrev pub pair_room : List ℕ → ℕ
pair_room out = length out / 2

-- Refusals: as cutting, with 6 counting records. So the answer is that of a cut whose output has as
-- many cells as there is room for records: their number is the number of ends.
abbrev pub reasons_answer : Mode → List ℕ → Option Words → ℕ → ℕ → Result Ends Refusal
reasons_answer mode text pool cells room = cut_answer mode text pool cells room

-- A refusal changes no output. An accepted call writes the first cells of the output and keeps the
-- rest.
abbrev pub pairs_after : Mode → List ℕ → Option Words → ℕ → List ℕ → List ℕ
pairs_after mode text pool cells out =
    output (accepts mode text pool cells (pair_room out)) (pairs (told_of mode (held pool) text)) out
