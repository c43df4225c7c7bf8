-- 01, "Numbers the host sees" and "Plain cutting": the answer of the public cut, and what becomes
-- of the rows that it is lent.
use Rattle.std.specs.Prelude.{ℕ, ◌+◌, ◌*◌, List, [], ◌∷◌, ◌++◌, ltb, length, replicate, Result, Ok, Err}
use Rattle.std.proofs.Math.Option.{Option}
use Rattle.newmm_rules.specs.declared.Ends.{Ends}
use Rattle.refusal.specs.declared.Refusal.{Refusal}
use Rattle.refusal.specs.declared.Refusal.TheVariants.{ScratchTooShort}
use Rattle.refusal.specs.Answers.{Cause, answer, output, out_cause}
use Rattle.trie_pool.specs.Meaning.{Words}
use Rattle.trie_check.specs.Refusals.{held, read_causes}
use Rattle.tcc.specs.Flags.{is_end}
use Rattle.newmm_rules.specs.Words.{Given}
use Rattle.newmm_rules.specs.Cutting.{Cut, cut}
use Rattle.newmm_rules.specs.declared.Mode.{Mode}
use Rattle.newmm_rules.specs.Modes.{segmented}

-- a text with its own cluster ends, and the words held
abbrev pub given : Words → List ℕ → Given
given words text = record { text = text; is_end = is_end text; held = words }

-- the plain cut of a text by itself
unfoldable pub plain_cut : Words → List ℕ → Cut
plain_cut words text = cut (given words text)

-- the ends and the edge count of a text by the words that are held, in a mode
unfoldable pub cut_of : Mode → Words → List ℕ → Cut
cut_of mode words text = segmented mode (plain_cut words) text

-- The scratch cells that a cut of n characters asks for.
abbrev pub scratch_for : ℕ → ℕ
scratch_for n = 9 * n + 128

-- 5: scratch has fewer than 9n+128 cells; 9n+128.
abbrev pub scratch_cause : ℕ → ℕ → Cause
scratch_cause n cells = record { refusal = ScratchTooShort (scratch_for n); holds = ltb cells (scratch_for n) }

abbrev pub scratch_causes : List ℕ → ℕ → List Cause
scratch_causes text cells = scratch_cause (length text) cells ∷ []

-- 6: the output has fewer cells than the answer; cells needed.
abbrev pub out_causes : List ℕ → ℕ → List Cause
out_causes ends room = out_cause (length ends) room ∷ []

-- 2, 3, 4, 5: before any cutting is done. `cells` is the number of scratch cells.
abbrev pub first_causes : List ℕ → Option Words → ℕ → List Cause
first_causes text pool cells = read_causes text pool ++ scratch_causes text cells

-- Cutting: 2, 3, 4, 5, 6. `room` is the number of output cells.
abbrev pub cut_causes : Mode → List ℕ → Option Words → ℕ → ℕ → List Cause
cut_causes mode text pool cells room = first_causes text pool cells ++ out_causes (cut_of mode (held pool) text).ends room

-- The call is accepted with the number of ends, or refused.
abbrev pub accepts : Mode → List ℕ → Option Words → ℕ → ℕ → Result ℕ Refusal
accepts mode text pool cells room =
    answer (cut_causes mode text pool cells room) (length (cut_of mode (held pool) text).ends)

-- accepted with n ends, of so many edges
abbrev pub accepted_with : ℕ → ℕ → Result Ends Refusal
accepted_with n edges = Ok (record { ends = n; edges = edges })

-- The result carries the number of ends, and reports the number of edges recorded in the whole
-- call.
abbrev pub told : Result ℕ Refusal → ℕ → Result Ends Refusal
told (Ok n) edges = accepted_with n edges
told (Err r) edges = Err r

abbrev pub cut_answer : Mode → List ℕ → Option Words → ℕ → ℕ → Result Ends Refusal
cut_answer mode text pool cells room = told (accepts mode text pool cells room) (cut_of mode (held pool) text).edges

-- A refusal changes no output. An accepted call writes the first cells of the output and keeps the
-- rest.
abbrev pub out_after : Mode → List ℕ → Option Words → ℕ → List ℕ → List ℕ
out_after mode text pool cells out =
    output (accepts mode text pool cells (length out)) (cut_of mode (held pool) text).ends out

-- Scratch is untouched after 2 to 5, and all zero after 6 and after an accepted cutting call.
abbrev pub cleared : Result ℕ Refusal → List ℕ → List ℕ
cleared (Ok n) scratch = replicate (length scratch) 0
cleared (Err r) scratch = scratch

abbrev pub scratch_after : List ℕ → Option Words → List ℕ → List ℕ
scratch_after text pool scratch = cleared (answer (first_causes text pool (length scratch)) 0) scratch
