-- Texts: which cells are scalars, parts of a text, trimming. Assumes nothing.
use Prim.Native.Nat.{ℕ}
use mathlib.Core.List.{List}
use Rattle.char_string_scalars.proofs.is_scalar.Kinds as is_scalar_kinds
use Rattle.char_string_scalars.proofs.is_scalar.Reads as is_scalar_contract
use Rattle.char_string_scalars.proofs.first_non_scalar.Kinds as first_non_scalar_kinds
use Rattle.char_string_scalars.proofs.first_non_scalar.Reads as first_non_scalar_contract
use Rattle.char_string_scalars.proofs.check_text.Kinds as check_text_kinds
use Rattle.char_string_scalars.proofs.check_text.Reads as check_text_contract
use Rattle.char_string.proofs.is_substring.Kinds as is_substring_kinds
use Rattle.char_string.proofs.is_substring.Reads as is_substring_contract
use Rattle.char_string.proofs.fit.Kinds as fit_kinds
use Rattle.char_string.proofs.fit.Reads as fit_contract
use Rattle.char_string.proofs.substring.Kinds as substring_kinds
use Rattle.char_string.proofs.substring.Reads as substring_contract
use Rattle.char_string.proofs.chars_len.Kinds as chars_len_kinds
use Rattle.char_string.proofs.chars_len.Reads as chars_len_contract
use Rattle.char_string.proofs.get_char_at.Kinds as get_char_at_kinds
use Rattle.char_string.proofs.get_char_at.Reads as get_char_at_contract
use Rattle.char_string.proofs.sub_view.Kinds as sub_view_kinds
use Rattle.char_string.proofs.sub_view.Reads as sub_view_contract
use Rattle.char_string_white_space.proofs.is_trimmed.Kinds as is_trimmed_kinds
use Rattle.char_string_white_space.proofs.is_trimmed.Reads as is_trimmed_contract
use Rattle.char_string_trim.proofs.trim.Kinds as trim_kinds
use Rattle.char_string_trim.proofs.trim.Reads as trim_contract
use Rattle.char_string_trim.proofs.trimmed.Kinds as trimmed_kinds
use Rattle.char_string_trim.proofs.trimmed.Reads as trimmed_contract
use Rattle.char_string_last_space.proofs.rfind_space_char_index.Kinds as rfind_space_char_index_kinds
use Rattle.char_string_last_space.proofs.rfind_space_char_index.Reads as rfind_space_char_index_contract
use Rattle.theorems_one_answer.specs.OneAnswer.{OneAnswer}
use Rattle.theorems_one_answer.proofs.Shapes.{answer, both}

pub is_scalar_one : OneAnswer 0 is_scalar_kinds.ps is_scalar_kinds.r is_scalar_contract.Post (λ κs x s. x)
is_scalar_one κs a x y s t p q = answer p q

pub first_non_scalar_one : OneAnswer 1 first_non_scalar_kinds.ps first_non_scalar_kinds.r first_non_scalar_contract.Post (λ κs x s. x)
first_non_scalar_one κs a x y s t p q = answer p q

pub check_text_one : OneAnswer 1 check_text_kinds.ps check_text_kinds.r check_text_contract.Post (λ κs x s. x)
check_text_one κs a x y s t p q = answer p q

pub is_substring_one : OneAnswer 1 is_substring_kinds.ps is_substring_kinds.r is_substring_contract.Post (λ κs x s. x)
is_substring_one κs a x y s t p q = answer p q

pub fit_one : OneAnswer 1 fit_kinds.ps fit_kinds.r fit_contract.Post (λ κs x s. x)
fit_one κs a x y s t p q = answer p q

-- the cells, and where they stand
pub substring_one : OneAnswer {A = List ℕ × (ℕ × ℕ)} 1 substring_kinds.ps substring_kinds.r substring_contract.Post (λ κs x s. (x.now, x.ref_ptr))
substring_one κs a x y s t p q = both (answer p.0 q.0) (answer p.1 q.1)

pub chars_len_one : OneAnswer 1 chars_len_kinds.ps chars_len_kinds.r chars_len_contract.Post (λ κs x s. x)
chars_len_one κs a x y s t p q = answer p q

pub get_char_at_one : OneAnswer 1 get_char_at_kinds.ps get_char_at_kinds.r get_char_at_contract.Post (λ κs x s. x)
get_char_at_one κs a x y s t p q = answer p q

pub sub_view_one : OneAnswer 1 sub_view_kinds.ps sub_view_kinds.r sub_view_contract.Post (λ κs x s. x)
sub_view_one κs a x y s t p q = answer p q

pub is_trimmed_one : OneAnswer 0 is_trimmed_kinds.ps is_trimmed_kinds.r is_trimmed_contract.Post (λ κs x s. x)
is_trimmed_one κs a x y s t p q = answer p q

pub trim_one : OneAnswer 1 trim_kinds.ps trim_kinds.r trim_contract.Post (λ κs x s. x)
trim_one κs a x y s t p q = answer p q

-- the cells, and where they stand
pub trimmed_one : OneAnswer {A = List ℕ × (ℕ × ℕ)} 1 trimmed_kinds.ps trimmed_kinds.r trimmed_contract.Post (λ κs x s. (x.now, x.ref_ptr))
trimmed_one κs a x y s t p q = both (answer p.0 q.0) (answer p.1 q.1)

pub rfind_space_char_index_one : OneAnswer 1 rfind_space_char_index_kinds.ps rfind_space_char_index_kinds.r rfind_space_char_index_contract.Post (λ κs x s. x)
rfind_space_char_index_one κs a x y s t p q = answer p q
