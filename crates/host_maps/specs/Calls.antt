-- What a host is told of a map of breaks, and what becomes of the row that it lends: the answer and
-- the row of the library function, as its contract gives them.
use Rattle.std.specs.Prelude.{ℕ, ◌≡◌, List, length, Option, None, Some, Result, Ok, Err}
use Rattle.refusal.specs.Numbers.{number_of, detail_of}
use Rattle.refusal.specs.declared.Refusal.{Refusal}
use Rattle.break_map_rules.specs.Answers.{map_answer, map_after, count_answer, next_answer}
use Rattle.host_telling.specs.Told.{Told, tells}

-- A MAP IS WRITTEN: what the host is told, and what stands in the row.
abbrev pub MapTold : ℕ → (ends old : List ℕ) → Told → (map : List ℕ) → Type 0
MapTold n ends old t map = (t ≡ tells (map_answer n ends (length old))) × (map ≡ map_after n ends old)

-- BREAKS ARE COUNTED.
abbrev pub CountTold : ℕ → List ℕ → ℕ → Told → Type 0
CountTold n map position t = t ≡ tells (count_answer n map position)

-- The number that the search for the next break returns, and the numbers that it sets.
pub record ToldNext : Type 0 where
  pub number : ℕ
  pub found : ℕ
  pub place : ℕ
  pub detail : ℕ

abbrev pub told_next : (number found place detail : ℕ) → ToldNext
told_next number found place detail = record { number = number; found = found; place = place; detail = detail }

-- Found is 1, and the place that of the break; or both are 0, where there is none and where the
-- call is refused.
abbrev pub tells_next : Result (Option ℕ) Refusal → ToldNext
tells_next (Ok (Some q)) = told_next 0 1 q 0
tells_next (Ok None) = told_next 0 0 0 0
tells_next (Err r) = told_next (number_of r) 0 0 (detail_of r)

-- THE NEXT BREAK IS LOOKED FOR.
abbrev pub NextTold : ℕ → List ℕ → ℕ → ToldNext → Type 0
NextTold n map position t = t ≡ tells_next (next_answer n map position)
