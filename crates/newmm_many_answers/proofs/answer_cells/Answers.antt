use native.Mathlib.Omega.{arith}
use Rattle.newmm_many_answers.proofs.answer_cells.Goals as goal

pub overflow_cast-result : goal.overflow_cast-result
overflow_cast-result c = omega (arith, (c.requires.counts _ _ c.in-Ok.is).0)

pub overflow_cast-result-in-Ok : goal.overflow_cast-result-in-Ok
overflow_cast-result-in-Ok c = omega (arith, (c.requires.counts _ _ c.in-Ok.is).1)
