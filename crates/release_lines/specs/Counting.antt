-- 02, ticket 14: what a line of a release does to its figures.
use Rattle.std.specs.Prelude.{ℕ, Bool, true, false, List, eqb, Result, Ok, Err}
use Rattle.newmm_rules.specs.declared.Ends.{Ends}
use Rattle.refusal.specs.declared.Refusal.{Refusal}
use Rattle.refusal.specs.Numbers.{number_of}
use Rattle.utf8.specs.Decoding.{scalars_of, Room, decoded}
use Rattle.newmm_rules.specs.declared.Mode.{Mode}
use Rattle.newmm_answers.specs.Calls.{Call, call}
use Rattle.figures_rules.specs.Figures.{after}
use Rattle.figures.specs.Calls.{text_figures, feed_answer, refused_answer, refused_after}
use Rattle.sheet_replies.specs.declared.Asked.{Asked}
use Rattle.sheet_replies.specs.declared.Asked.TheVariants.{Nothing, Add, Remove, Cut}

-- A text that is fed, or that was refused before, is answered with 13: the figures are full.
abbrev pub fed_full : Result Ends Refusal → Bool
fed_full (Ok told) = false
fed_full (Err r) = eqb (number_of r) 13

abbrev pub refused_full : Result ℕ Refusal → Bool
refused_full (Ok n) = false
refused_full (Err r) = true

-- A text is decoded first. One that decoding refuses is counted by the number of its refusal, any
-- other is fed.
abbrev pub figures_by : Result ℕ Refusal → List ℕ → Call → List ℕ
figures_by (Ok n) figures c = after figures (text_figures c)
figures_by (Err r) figures c = refused_after figures (number_of r)

abbrev pub full_by : Result ℕ Refusal → List ℕ → Call → Bool
full_by (Ok n) figures c = fed_full (feed_answer figures c)
full_by (Err r) figures c = refused_full (refused_answer figures (number_of r))

-- Only a text that is to be cut is counted: the figures after a line, and whether they are full.
unfoldable pub figures_after : Asked → (figures text pool pairs scratch : List ℕ) → Room → List ℕ
figures_after Nothing figures text pool pairs scratch room = figures
figures_after Add figures text pool pairs scratch room = figures
figures_after Remove figures text pool pairs scratch room = figures
figures_after (Cut mode) figures text pool pairs scratch room =
    figures_by (decoded text room) figures (call (scalars_of text) pool pairs scratch mode)

unfoldable pub full_after : Asked → (figures text pool pairs scratch : List ℕ) → Room → Bool
full_after Nothing figures text pool pairs scratch room = false
full_after Add figures text pool pairs scratch room = false
full_after Remove figures text pool pairs scratch room = false
full_after (Cut mode) figures text pool pairs scratch room =
    full_by (decoded text room) figures (call (scalars_of text) pool pairs scratch mode)
