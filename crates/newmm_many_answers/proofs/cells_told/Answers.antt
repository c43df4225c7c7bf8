use native.Mathlib.Omega.{arith}
use Rattle.newmm_many_answers.proofs.Small.{few_told}
use Rattle.newmm_many_answers.proofs.cells_told.Goals as goal

pub overflow_mul-result : goal.overflow_mul-result
overflow_mul-result c = omega (arith, few_told c.requires, c.ends_told-n.ensures)
