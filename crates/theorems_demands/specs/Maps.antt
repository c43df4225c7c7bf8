-- THE MAP OF A CUT (02, ticket 9). That the map and the ends say the same, for any right ends:
-- crates/theorems_break_map/specs/Same.antt.
use Rattle.std.specs.Prelude.{ℕ, ◌≤◌, ◌≡◌, List, length, take, Ok}
use Rattle.newmm_answers.specs.Answers.{accepted_with}
use Rattle.newmm_answers.specs.Calls.{Call, answer_of, out_of}
use Rattle.break_map_rules.specs.Maps.{cells_for, map_of, all_breaks}
use Rattle.break_map_rules.specs.Ends.{AllRight}
use Rattle.break_map_rules.specs.Answers.{map_answer, map_after, count_answer}

-- What calls on a row answer whose map is of these ends: it is written, its breaks are the ends,
-- and counting up to n gives their number.
pub record Mapped (n : ℕ) (ends old : List ℕ) : Type 0 where
  pub right : AllRight n ends
  pub written : map_answer n ends (length old) ≡ Ok (cells_for n)
  pub breaks_are : all_breaks n (map_of n ends) ≡ ends
  pub counted : count_answer n (map_after n ends old) n ≡ Ok (length ends)

-- The ends that a cut wrote make a map of its text, in every mode and in any row with the cells.
abbrev pub CutsMakeMaps : Type 0
CutsMakeMaps =
    (c : Call) (k edges : ℕ) (old : List ℕ)
    → answer_of c ≡ accepted_with k edges
    → cells_for (length c.text) ≤ length old
    → Mapped (length c.text) (take k (out_of c)) old
