-- The cut. Assumes nothing.
use Rattle.std.specs.Prelude.{Result}
use Rattle.newmm_rules.specs.declared.Ends.{Ends}
use Rattle.refusal.specs.declared.Refusal.{Refusal}
use Prim.Native.Nat.{ℕ}
use mathlib.Core.List.{List}
use Rattle.newmm.proofs.cut.Kinds as cut_kinds
use Rattle.newmm.proofs.cut.Reads as cut_contract
use Rattle.theorems_one_answer.specs.OneAnswer.{OneAnswer}
use Rattle.theorems_one_answer.proofs.Shapes.{answer_and_two_rows}

-- the answer, the output and the scratch
pub cut_one : OneAnswer {A = Result Ends Refusal × List ℕ × List ℕ} 4 cut_kinds.ps cut_kinds.r cut_contract.Post (λ κs x s. let out = s.1.1.0.now in let scratch = s.1.1.1.0.now in (x, out, scratch))
cut_one κs a x y s t p q = answer_and_two_rows p.0 p.1.0 p.1.1 q.0 q.1.0 q.1.1
