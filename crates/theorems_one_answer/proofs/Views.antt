-- Views of views, for callers with plain parameters. Assumes nothing.
use Prim.Native.Nat.{ℕ}
use mathlib.Core.List.{List}
use Rattle.char_string_view.proofs.sub_chars_len.Kinds as sub_chars_len_kinds
use Rattle.char_string_view.proofs.sub_chars_len.Reads as sub_chars_len_contract
use Rattle.char_string_view.proofs.sub_get_char_at.Kinds as sub_get_char_at_kinds
use Rattle.char_string_view.proofs.sub_get_char_at.Reads as sub_get_char_at_contract
use Rattle.char_string_view.proofs.sub_part.Kinds as sub_part_kinds
use Rattle.char_string_view.proofs.sub_part.Reads as sub_part_contract
use Rattle.theorems_one_answer.specs.OneAnswer.{OneAnswer}
use Rattle.theorems_one_answer.proofs.Shapes.{answer, both}

pub sub_chars_len_one : OneAnswer 1 sub_chars_len_kinds.ps sub_chars_len_kinds.r sub_chars_len_contract.Post (λ κs x s. x)
sub_chars_len_one κs a x y s t p q = answer p q

pub sub_get_char_at_one : OneAnswer 1 sub_get_char_at_kinds.ps sub_get_char_at_kinds.r sub_get_char_at_contract.Post (λ κs x s. x)
sub_get_char_at_one κs a x y s t p q = answer p q

-- the cells, and where they stand
pub sub_part_one : OneAnswer {A = List ℕ × (ℕ × ℕ)} 1 sub_part_kinds.ps sub_part_kinds.r sub_part_contract.Post (λ κs x s. (x.now, x.ref_ptr))
sub_part_one κs a x y s t p q = both (answer p.0 q.0) (answer p.1 q.1)
