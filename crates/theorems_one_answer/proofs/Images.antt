-- Reading and writing an image: no second answer fits. Assumes nothing.
use Rattle.std.specs.Prelude.{Result}
use Rattle.refusal.specs.declared.Refusal.{Refusal}
use mathlib.Core.List.{List}
use Prim.Native.Nat.{ℕ}
use Rattle.word_list.proofs.read_image.Kinds as read_kinds
use Rattle.word_list.proofs.read_image.Reads as read_contract
use Rattle.word_list_write.proofs.write_image.Kinds as write_kinds
use Rattle.word_list_write.proofs.write_image.Reads as write_contract
use Rattle.theorems_one_answer.specs.OneAnswer.{OneAnswer}
use Rattle.theorems_one_answer.proofs.Shapes.{answer_and_output, answer_and_pool}

-- the answer and the pool
pub read_image_one : OneAnswer {A = Result ℕ Refusal × List ℕ} 2 read_kinds.ps read_kinds.r read_contract.Post (λ κs x s. let pool = s.0.now in (x, pool))
read_image_one κs a x y s t p q = answer_and_pool _ _ _ _ p.0 p.1 q.0 q.1

-- the answer and the output
pub write_image_one : OneAnswer {A = Result ℕ Refusal × List ℕ} 2 write_kinds.ps write_kinds.r write_contract.Post (λ κs x s. let out = s.1.0.now in (x, out))
write_image_one κs a x y s t p q = answer_and_output _ _ p.0 p.1 q.0 q.1
