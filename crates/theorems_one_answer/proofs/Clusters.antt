-- Clusters. Assumes nothing.
use Rattle.std.specs.Prelude.{Result}
use Rattle.refusal.specs.declared.Refusal.{Refusal}
use Prim.Native.Nat.{ℕ}
use mathlib.Core.List.{List}
use Rattle.tcc.proofs.tcc_pos.Kinds as tcc_pos_kinds
use Rattle.tcc.proofs.tcc_pos.Reads as tcc_pos_contract
use Rattle.theorems_one_answer.specs.OneAnswer.{OneAnswer}
use Rattle.theorems_one_answer.proofs.Shapes.{answer_and_output}

-- the answer and the output
pub tcc_pos_one : OneAnswer {A = Result ℕ Refusal × List ℕ} 2 tcc_pos_kinds.ps tcc_pos_kinds.r tcc_pos_contract.Post (λ κs x s. let out = s.1.0.now in (x, out))
tcc_pos_one κs a x y s t p q = answer_and_output _ _ p.0 p.1 q.0 q.1
