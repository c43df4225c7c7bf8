-- What the three calls answer, and what becomes of the row that is written.
use Rattle.std.specs.Prelude.{ℕ, List, [], ◌∷◌, ◌++◌, length, get_or, ltb, Option, None, Some, Result, Ok, Err}
use Rattle.refusal.specs.declared.Refusal.{Refusal}
use Rattle.refusal.specs.declared.Refusal.TheVariants.{WrongPosition, BitAboveEnd}
use Rattle.refusal.specs.Answers.{Cause, answer, output, long_cause, out_cause}
use Rattle.break_map_rules.specs.Maps.{cells_for, map_of, breaks_up_to, breaks_above, bits_above}
use Rattle.break_map_rules.specs.Ends.{first_wrong}

-- 2 if n is over 65,535; 6 if the row is too short.
abbrev pub size_causes : ℕ → ℕ → List Cause
size_causes n room = long_cause n ∷ out_cause (cells_for n) room ∷ []

-- 10: a given end is 0, over n or not above the end before it; its index.
abbrev pub ends_cause : ℕ → List ℕ → Cause
ends_cause n ends =
    record { refusal = WrongPosition (first_wrong n ends); holds = ltb (first_wrong n ends) (length ends) }

-- 10: a given position is over n; it.
abbrev pub position_cause : ℕ → ℕ → Cause
position_cause n position = record { refusal = WrongPosition position; holds = ltb n position }

-- 11: a given map has a bit set above n in its last used cell; the lowest such position.
abbrev pub above_cause : ℕ → List ℕ → Cause
above_cause n map =
    record { refusal = BitAboveEnd (get_or (bits_above n map) 0 0); holds = ltb 0 (length (bits_above n map)) }

-- ---- writing a map: 2, 6, 10

abbrev pub map_causes : ℕ → List ℕ → ℕ → List Cause
map_causes n ends room = size_causes n room ++ (ends_cause n ends ∷ [])

-- It is accepted with the number of cells written.
abbrev pub map_answer : ℕ → List ℕ → ℕ → Result ℕ Refusal
map_answer n ends room = answer (map_causes n ends room) (cells_for n)

-- the row afterwards
abbrev pub map_after : ℕ → (ends old : List ℕ) → List ℕ
map_after n ends old = output (map_answer n ends (length old)) (map_of n ends) old

-- ---- reading one: 2, 6, 10, 11

abbrev pub read_causes : ℕ → List ℕ → ℕ → List Cause
read_causes n map position = size_causes n (length map) ++ (position_cause n position ∷ above_cause n map ∷ [])

-- The number of breaks up to and including a position.
abbrev pub count_answer : ℕ → List ℕ → ℕ → Result ℕ Refusal
count_answer n map position = answer (read_causes n map position) (breaks_up_to map position)

-- The first of a row of breaks. No next break is an answer, and no refusal.
abbrev pub first_of : List ℕ → Option ℕ
first_of [] = None
first_of (q ∷ qs) = Some q

-- what is told unless the call is refused
abbrev pub unless_refused : Result ℕ Refusal → Option ℕ → Result (Option ℕ) Refusal
unless_refused (Ok k) found = Ok found
unless_refused (Err r) found = Err r

-- The first break above a position.
abbrev pub next_answer : ℕ → List ℕ → ℕ → Result (Option ℕ) Refusal
next_answer n map position = unless_refused (answer (read_causes n map position) 0) (first_of (breaks_above n map position))
