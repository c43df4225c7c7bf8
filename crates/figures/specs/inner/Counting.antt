-- The figures of a text whose tokens stand in cells of scratch.
use Rattle.std.specs.Prelude.{Ok, ℕ, ◌≤◌, ◌≡◌, List, length, take, Result, Err}
use Rattle.newmm_answers.specs.Answers.{accepted_with}
use Rattle.newmm_rules.specs.declared.Ends.{Ends}
use Rattle.refusal.specs.declared.Refusal.{Refusal}
use Rattle.refusal.specs.Numbers.{number_of}
use Rattle.figures_rules.specs.Outcomes.{of_cut, of_refused, Reasons}
use Rattle.figures_cells.specs.inner.Reasons.{reasons_in}

abbrev pub figures_in : Result Ends Refusal → ℕ → List ℕ → List ℕ
figures_in (Ok told) characters cells = of_cut characters (reasons_in (take told.ends cells)) told.edges
figures_in (Err r) characters cells = of_refused (number_of r)

-- the cells of the tokens are there, each with a reason; a refusal is a text's
pub record Countable (told : Result Ends Refusal) (cells : List ℕ) : Type 0 where
  pub cut : (k edges : ℕ) → told ≡ accepted_with k edges → (k ≤ length cells) × Reasons (reasons_in (take k cells))
  pub refused : (r : Refusal) → told ≡ Err r → (1 ≤ number_of r) × (number_of r ≤ 6)
