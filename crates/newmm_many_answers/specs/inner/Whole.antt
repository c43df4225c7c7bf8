-- What the loop over the texts asks: none of the refusals of the whole call is due.
use Rattle.std.specs.Prelude.{ℕ, ◌*◌, ◌≤◌, List, length}
use Rattle.newmm_many_answers.specs.Texts.{first_wrong}

-- every text end is right, and there are four cells for each answer
pub record Whole (size : ℕ) (ends : List ℕ) (room : ℕ) : Type 0 where
  pub right_ends : length ends ≤ first_wrong size ends
  pub cells : 4 * length ends ≤ room
