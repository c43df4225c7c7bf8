-- 02, ticket 9: what is shown of maps and ends.
use Rattle.std.specs.Prelude.{ℕ, ◌+◌, ◌*◌, ◌-◌, ◌≤◌, ◌<◌, ◌≡◌, false, List, [], ◌∷◌, length, get_or, take, Option, None, Some, Ok}
use Rattle.std.specs.Int.Count.{ones}
use Rattle.newmm_rules.specs.Positions.{up_from, those, how_many, member, In}
use Rattle.break_map_rules.specs.Maps.{Cells, cells_for, map_of, bit_at, is_break, all_breaks, breaks_up_to, breaks_above, bits_above}
use Rattle.break_map_rules.specs.Ends.{AllRight}
use Rattle.break_map_rules.specs.Answers.{map_answer, map_after, count_answer, first_of, next_answer}

-- ---- THE MAP AND THE ENDS SAY THE SAME

-- The breaks of the map that right ends give are these ends.
abbrev pub EndsFromMap : Type 0
EndsFromMap = (n : ℕ) (ends : List ℕ) → AllRight n ends → all_breaks n (map_of n ends) ≡ ends

-- The breaks of a map are right ends, and give the map back, if it passes 11 and position 0 is no
-- break. Its cells after the used ones are ignored.
abbrev pub MapFromEnds : Type 0
MapFromEnds =
    (n : ℕ) (map : List ℕ)
    → Cells map
    → cells_for n ≤ length map
    → bits_above n map ≡ []
    → is_break map 0 ≡ false
    → AllRight n (all_breaks n map) × (map_of n (all_breaks n map) ≡ take (cells_for n) map)

-- ---- 02's sentences decide the cells

-- Set exactly at the token ends. Higher bits are zero.
pub record SetAt (n : ℕ) (ends map : List ℕ) : Type 0 where
  pub size : length map ≡ cells_for n
  pub cells : Cells map
  pub set : (p : ℕ) → p ≤ n → In p ends → bit_at map p ≡ 1
  pub only : (p : ℕ) → p ≤ n → bit_at map p ≡ 1 → In p ends
  pub higher : (p : ℕ) → n < p → bit_at map p ≡ 0

-- The map of right ends is so, and no second one.
abbrev pub OneMap : Type 0
OneMap =
    (n : ℕ) (ends : List ℕ)
    → AllRight n ends
    → SetAt n ends (map_of n ends) × ((map : List ℕ) → SetAt n ends map → map ≡ map_of n ends)

-- ---- counting

-- In each cell the number of breaks is the number of ones.
abbrev pub OnesAreBreaks : Type 0
OnesAreBreaks =
    (map : List ℕ)
    → Cells map
    → (i : ℕ)
    → i < length map
    → how_many (is_break map) 64 (64 * i) ≡ ones (get_or map i 0)

-- Counting up to n gives the number of ends.
abbrev pub CountIsEnds : Type 0
CountIsEnds = (n : ℕ) (ends : List ℕ) → AllRight n ends → breaks_up_to (map_of n ends) n ≡ length ends

-- ---- stepping

-- the places that stepping by the next break from p comes to, up to where there is none
pub data Steps (n : ℕ) (map : List ℕ) : ℕ → List ℕ → Type 0 where
  stop : {p : ℕ} → first_of (breaks_above n map p) ≡ None → Steps n map p []
  step : {p q : ℕ} {qs : List ℕ} → first_of (breaks_above n map p) ≡ Some q → Steps n map q qs → Steps n map p (q ∷ qs)

-- Stepping by the next break from 0 lists the ends.
abbrev pub StepsListEnds : Type 0
StepsListEnds = (n : ℕ) (ends : List ℕ) → AllRight n ends → Steps n (map_of n ends) 0 ends

-- ---- A ROW THAT WAS WRITTEN ANSWERS BY THE ENDS

-- whatever stands behind the map: the number of ends up to and including a position, and the first
-- end above one. At n these are all ends.
abbrev pub WrittenAnswers : Type 0
WrittenAnswers =
    (n : ℕ) (ends old : List ℕ) (k : ℕ)
    → map_answer n ends (length old) ≡ Ok k
    → (p : ℕ)
    → p ≤ n
    → (count_answer n (map_after n ends old) p ≡ Ok (how_many (λ (q : ℕ). member q ends) (p + 1) 0))
    × (next_answer n (map_after n ends old) p ≡ Ok (first_of (those (λ (q : ℕ). member q ends) (up_from (n - p) (p + 1)))))

abbrev pub WrittenCount : Type 0
WrittenCount =
    (n : ℕ) (ends old : List ℕ) (k : ℕ)
    → map_answer n ends (length old) ≡ Ok k
    → count_answer n (map_after n ends old) n ≡ Ok (length ends)
