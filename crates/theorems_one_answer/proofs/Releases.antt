-- The libraries of the program that makes a release's list: the answer, the figures and the words,
-- and the table. Assumes nothing.
use Prim.Native.Nat.{ℕ}
use mathlib.Core.Bool.{Bool}
use mathlib.Core.List.{List}
use Rattle.release_lines.proofs.count_line.Kinds as count_line_kinds
use Rattle.release_lines.proofs.count_line.Reads as count_line_contract
use Rattle.release_table.proofs.write_figures.Kinds as write_figures_kinds
use Rattle.release_table.proofs.write_figures.Reads as write_figures_contract
use Rattle.theorems_one_answer.specs.OneAnswer.{OneAnswer}
use Rattle.theorems_one_answer.proofs.Shapes.{answer, both}
use Rattle.theorems_one_answer.proofs.Sheets.{pool_one}

pub count_line_one : OneAnswer {A = Bool × (List ℕ × List ℕ)} 7 count_line_kinds.ps count_line_kinds.r count_line_contract.Post
    (λ κs x s. let figures = s.1.0.now in let pool = s.1.1.0.now in (x, (figures, pool)))
count_line_one κs a x y s t p q = both (answer p.0 q.0) (both (answer p.1.0 q.1.0) (pool_one _ _ _ _ _ _ p.1.1 q.1.1))

pub write_figures_one : OneAnswer {A = ℕ × List ℕ} 2 write_figures_kinds.ps write_figures_kinds.r write_figures_contract.Post (λ κs x s. (x, s.1.0.now))
write_figures_one κs a x y s t p q = both (answer p.0 q.0) (answer p.1 q.1)
