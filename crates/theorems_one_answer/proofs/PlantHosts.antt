-- The plant calls for hosts: what is told, and the rows. Each place of `s` is named by the
-- parameter that stands there. Assumes nothing.
use Prim.Native.Nat.{ℕ}
use mathlib.Core.List.{List}
use Rattle.fetlockice.proofs.fetlockice_plants_start.Kinds as start_kinds
use Rattle.fetlockice.proofs.fetlockice_plants_start.Reads as start_contract
use Rattle.fetlockice.proofs.fetlockice_plant_add.Kinds as add_kinds
use Rattle.fetlockice.proofs.fetlockice_plant_add.Reads as add_contract
use Rattle.fetlockice.proofs.fetlockice_plant_remove.Kinds as remove_kinds
use Rattle.fetlockice.proofs.fetlockice_plant_remove.Reads as remove_contract
use Rattle.fetlockice.proofs.fetlockice_plant_contains.Kinds as contains_kinds
use Rattle.fetlockice.proofs.fetlockice_plant_contains.Reads as contains_contract
use Rattle.fetlockice.proofs.fetlockice_plant_prefix_lengths.Kinds as prefixes_kinds
use Rattle.fetlockice.proofs.fetlockice_plant_prefix_lengths.Reads as prefixes_contract
use Rattle.fetlockice.proofs.fetlockice_plant_word_count.Kinds as count_kinds
use Rattle.fetlockice.proofs.fetlockice_plant_word_count.Reads as count_contract
use Rattle.fetlockice.proofs.fetlockice_plant_read_image.Kinds as read_kinds
use Rattle.fetlockice.proofs.fetlockice_plant_read_image.Reads as read_contract
use Rattle.fetlockice.proofs.fetlockice_plant_write_image.Kinds as write_kinds
use Rattle.fetlockice.proofs.fetlockice_plant_write_image.Reads as write_contract
use Rattle.fetlockice.proofs.fetlockice_plant_cut_plain.Kinds as cut_plain_kinds
use Rattle.fetlockice.proofs.fetlockice_plant_cut_plain.Reads as cut_plain_contract
use Rattle.fetlockice.proofs.fetlockice_plant_cut_safe.Kinds as cut_safe_kinds
use Rattle.fetlockice.proofs.fetlockice_plant_cut_safe.Reads as cut_safe_contract
use Rattle.fetlockice.proofs.fetlockice_plant_cut_sheet.Kinds as cut_sheet_kinds
use Rattle.fetlockice.proofs.fetlockice_plant_cut_sheet.Reads as cut_sheet_contract
use Rattle.fetlockice.proofs.fetlockice_plant_reasons_plain.Kinds as reasons_plain_kinds
use Rattle.fetlockice.proofs.fetlockice_plant_reasons_plain.Reads as reasons_plain_contract
use Rattle.fetlockice.proofs.fetlockice_plant_reasons_safe.Kinds as reasons_safe_kinds
use Rattle.fetlockice.proofs.fetlockice_plant_reasons_safe.Reads as reasons_safe_contract
use Rattle.fetlockice.proofs.fetlockice_plant_reasons_sheet.Kinds as reasons_sheet_kinds
use Rattle.fetlockice.proofs.fetlockice_plant_reasons_sheet.Reads as reasons_sheet_contract
use Rattle.fetlockice.proofs.fetlockice_plant_cut_many_plain.Kinds as cut_many_plain_kinds
use Rattle.fetlockice.proofs.fetlockice_plant_cut_many_plain.Reads as cut_many_plain_contract
use Rattle.fetlockice.proofs.fetlockice_plant_cut_many_safe.Kinds as cut_many_safe_kinds
use Rattle.fetlockice.proofs.fetlockice_plant_cut_many_safe.Reads as cut_many_safe_contract
use Rattle.fetlockice.proofs.fetlockice_plant_cut_many_sheet.Kinds as cut_many_sheet_kinds
use Rattle.fetlockice.proofs.fetlockice_plant_cut_many_sheet.Reads as cut_many_sheet_contract
use Rattle.fetlockice.proofs.fetlockice_plant_reasons_many_plain.Kinds as reasons_many_plain_kinds
use Rattle.fetlockice.proofs.fetlockice_plant_reasons_many_plain.Reads as reasons_many_plain_contract
use Rattle.fetlockice.proofs.fetlockice_plant_reasons_many_safe.Kinds as reasons_many_safe_kinds
use Rattle.fetlockice.proofs.fetlockice_plant_reasons_many_safe.Reads as reasons_many_safe_contract
use Rattle.fetlockice.proofs.fetlockice_plant_reasons_many_sheet.Kinds as reasons_many_sheet_kinds
use Rattle.fetlockice.proofs.fetlockice_plant_reasons_many_sheet.Reads as reasons_many_sheet_contract
use Rattle.trie_plants_answers.specs.Answers.{start_answer, plant_add_answer, plant_added, plant_remove_answer, plant_removed}
use Rattle.trie_plants_answers.proofs.One.{one_plant_after, one_started}
use Rattle.word_list_answers.specs.Answers.{image_terms}
use Rattle.word_list_plants.specs.Answers.{plant_read_answer}
use Rattle.host_telling.specs.Told.{Told, told, told_cut}
use Rattle.host_plants.specs.Calls.{plant_of}
use Rattle.theorems_one_answer.specs.OneAnswer.{OneAnswer}
use Rattle.theorems_one_answer.proofs.Shapes.{answer, both, answer_and_two_rows}

pub plants_start_one :
    OneAnswer {A = Told × List ℕ} 3 start_kinds.ps start_kinds.r start_contract.Post
    (λ κs number s. let pool = s.0.now in let count = s.1.1.1.0.now in let detail = s.1.1.1.1.0.now in (told number count detail, pool))
plants_start_one κs a x y s t p q = both (answer p.0 q.0) (one_started (start_answer a.1.0 a.1.1.0 a.0.now) a.1.0 a.1.1.0 a.0.now _ _ p.1 q.1)

pub plant_add_one :
    OneAnswer {A = Told × List ℕ} 4 add_kinds.ps add_kinds.r add_contract.Post
    (λ κs number s. let pool = s.0.now in let count = s.1.1.1.1.0.now in let detail = s.1.1.1.1.1.0.now in (told number count detail, pool))
plant_add_one κs a x y s t p q =
    both (answer p.0 q.0)
    (one_plant_after (plant_of a.1.0) (plant_add_answer (plant_of a.1.0) a.1.1.0.now a.1.1.1.0 a.0.now) a.0.now _ _ (plant_added (plant_of a.1.0) a.1.1.0.now a.1.1.1.0 a.0.now) p.1 q.1)

pub plant_remove_one :
    OneAnswer {A = Told × List ℕ} 4 remove_kinds.ps remove_kinds.r remove_contract.Post
    (λ κs number s. let pool = s.0.now in let count = s.1.1.1.0.now in let detail = s.1.1.1.1.0.now in (told number count detail, pool))
plant_remove_one κs a x y s t p q =
    both (answer p.0 q.0) (one_plant_after (plant_of a.1.0) (plant_remove_answer (plant_of a.1.0) a.1.1.0.now a.0.now) a.0.now _ _ (plant_removed (plant_of a.1.0) a.1.1.0.now a.0.now) p.1 q.1)

pub plant_contains_one :
    OneAnswer {A = Told × ℕ} 5 contains_kinds.ps contains_kinds.r contains_contract.Post
    (λ κs number s. let count = s.1.1.1.0.now in let class = s.1.1.1.1.0.now in let detail = s.1.1.1.1.1.0.now in (told number count detail, class))
plant_contains_one κs a x y s t p q = both (answer p.0 q.0) (answer p.1 q.1)

pub plant_prefix_lengths_one :
    OneAnswer {A = Told × List ℕ} 5 prefixes_kinds.ps prefixes_kinds.r prefixes_contract.Post
    (λ κs number s. let out = s.1.1.1.0.now in let count = s.1.1.1.1.0.now in let detail = s.1.1.1.1.1.0.now in (told number count detail, out))
plant_prefix_lengths_one κs a x y s t p q = both (answer p.0 q.0) (answer p.1 q.1)

pub plant_word_count_one :
    OneAnswer {A = Told} 3 count_kinds.ps count_kinds.r count_contract.Post
    (λ κs number s. let count = s.1.1.0.now in let detail = s.1.1.1.0.now in told number count detail)
plant_word_count_one κs a x y s t p q = answer p q

pub plant_read_image_one :
    OneAnswer {A = Told × List ℕ} 4 read_kinds.ps read_kinds.r read_contract.Post
    (λ κs number s. let pool = s.0.now in let count = s.1.1.1.0.now in let detail = s.1.1.1.1.0.now in (told number count detail, pool))
plant_read_image_one κs a x y s t p q =
    both (answer p.0 q.0) (one_plant_after (plant_of a.1.0) (plant_read_answer (plant_of a.1.0) a.1.1.0.now a.0.now) a.0.now _ _ (image_terms a.1.1.0.now) p.1 q.1)

pub plant_write_image_one :
    OneAnswer {A = Told × List ℕ} 4 write_kinds.ps write_kinds.r write_contract.Post
    (λ κs number s. let out = s.1.1.0.now in let count = s.1.1.1.0.now in let detail = s.1.1.1.1.0.now in (told number count detail, out))
plant_write_image_one κs a x y s t p q = both (answer p.0 q.0) (answer p.1 q.1)

pub plant_cut_plain_one :
    OneAnswer {A = Told × List ℕ × List ℕ} 7 cut_plain_kinds.ps cut_plain_kinds.r cut_plain_contract.Post
    (λ κs number s. let out = s.1.1.1.0.now in let scratch = s.1.1.1.1.0.now in let count = s.1.1.1.1.1.0.now in let edges = s.1.1.1.1.1.1.0.now in let detail = s.1.1.1.1.1.1.1.0.now in (told_cut number count edges detail, out, scratch))
plant_cut_plain_one κs a x y s t p q = answer_and_two_rows p.0 p.1.0 p.1.1 q.0 q.1.0 q.1.1

pub plant_cut_safe_one :
    OneAnswer {A = Told × List ℕ × List ℕ} 7 cut_safe_kinds.ps cut_safe_kinds.r cut_safe_contract.Post
    (λ κs number s. let out = s.1.1.1.0.now in let scratch = s.1.1.1.1.0.now in let count = s.1.1.1.1.1.0.now in let edges = s.1.1.1.1.1.1.0.now in let detail = s.1.1.1.1.1.1.1.0.now in (told_cut number count edges detail, out, scratch))
plant_cut_safe_one κs a x y s t p q = answer_and_two_rows p.0 p.1.0 p.1.1 q.0 q.1.0 q.1.1

pub plant_cut_sheet_one :
    OneAnswer {A = Told × List ℕ × List ℕ} 7 cut_sheet_kinds.ps cut_sheet_kinds.r cut_sheet_contract.Post
    (λ κs number s. let out = s.1.1.1.0.now in let scratch = s.1.1.1.1.0.now in let count = s.1.1.1.1.1.0.now in let edges = s.1.1.1.1.1.1.0.now in let detail = s.1.1.1.1.1.1.1.0.now in (told_cut number count edges detail, out, scratch))
plant_cut_sheet_one κs a x y s t p q = answer_and_two_rows p.0 p.1.0 p.1.1 q.0 q.1.0 q.1.1

pub plant_reasons_plain_one :
    OneAnswer {A = Told × List ℕ × List ℕ} 7 reasons_plain_kinds.ps reasons_plain_kinds.r reasons_plain_contract.Post
    (λ κs number s. let pairs = s.1.1.1.0.now in let scratch = s.1.1.1.1.0.now in let count = s.1.1.1.1.1.0.now in let edges = s.1.1.1.1.1.1.0.now in let detail = s.1.1.1.1.1.1.1.0.now in (told_cut number count edges detail, pairs, scratch))
plant_reasons_plain_one κs a x y s t p q = answer_and_two_rows p.0 p.1.0 p.1.1 q.0 q.1.0 q.1.1

pub plant_reasons_safe_one :
    OneAnswer {A = Told × List ℕ × List ℕ} 7 reasons_safe_kinds.ps reasons_safe_kinds.r reasons_safe_contract.Post
    (λ κs number s. let pairs = s.1.1.1.0.now in let scratch = s.1.1.1.1.0.now in let count = s.1.1.1.1.1.0.now in let edges = s.1.1.1.1.1.1.0.now in let detail = s.1.1.1.1.1.1.1.0.now in (told_cut number count edges detail, pairs, scratch))
plant_reasons_safe_one κs a x y s t p q = answer_and_two_rows p.0 p.1.0 p.1.1 q.0 q.1.0 q.1.1

pub plant_reasons_sheet_one :
    OneAnswer {A = Told × List ℕ × List ℕ} 7 reasons_sheet_kinds.ps reasons_sheet_kinds.r reasons_sheet_contract.Post
    (λ κs number s. let pairs = s.1.1.1.0.now in let scratch = s.1.1.1.1.0.now in let count = s.1.1.1.1.1.0.now in let edges = s.1.1.1.1.1.1.0.now in let detail = s.1.1.1.1.1.1.1.0.now in (told_cut number count edges detail, pairs, scratch))
plant_reasons_sheet_one κs a x y s t p q = answer_and_two_rows p.0 p.1.0 p.1.1 q.0 q.1.0 q.1.1

pub plant_cut_many_plain_one :
    OneAnswer {A = (Told × List ℕ × List ℕ) × List ℕ} 8 cut_many_plain_kinds.ps cut_many_plain_kinds.r cut_many_plain_contract.Post
    (λ κs number s. let answers = s.1.1.1.1.0.now in let out = s.1.1.1.1.1.0.now in let scratch = s.1.1.1.1.1.1.0.now in let count = s.1.1.1.1.1.1.1.0.now in let detail = s.1.1.1.1.1.1.1.1.0.now in ((told number count detail, answers, out), scratch))
plant_cut_many_plain_one κs a x y s t p q =
    both (answer_and_two_rows p.0 p.1.0 p.1.1.0 q.0 q.1.0 q.1.1.0) (answer p.1.1.1 q.1.1.1)

pub plant_cut_many_safe_one :
    OneAnswer {A = (Told × List ℕ × List ℕ) × List ℕ} 8 cut_many_safe_kinds.ps cut_many_safe_kinds.r cut_many_safe_contract.Post
    (λ κs number s. let answers = s.1.1.1.1.0.now in let out = s.1.1.1.1.1.0.now in let scratch = s.1.1.1.1.1.1.0.now in let count = s.1.1.1.1.1.1.1.0.now in let detail = s.1.1.1.1.1.1.1.1.0.now in ((told number count detail, answers, out), scratch))
plant_cut_many_safe_one κs a x y s t p q =
    both (answer_and_two_rows p.0 p.1.0 p.1.1.0 q.0 q.1.0 q.1.1.0) (answer p.1.1.1 q.1.1.1)

pub plant_cut_many_sheet_one :
    OneAnswer {A = (Told × List ℕ × List ℕ) × List ℕ} 8 cut_many_sheet_kinds.ps cut_many_sheet_kinds.r cut_many_sheet_contract.Post
    (λ κs number s. let answers = s.1.1.1.1.0.now in let out = s.1.1.1.1.1.0.now in let scratch = s.1.1.1.1.1.1.0.now in let count = s.1.1.1.1.1.1.1.0.now in let detail = s.1.1.1.1.1.1.1.1.0.now in ((told number count detail, answers, out), scratch))
plant_cut_many_sheet_one κs a x y s t p q =
    both (answer_and_two_rows p.0 p.1.0 p.1.1.0 q.0 q.1.0 q.1.1.0) (answer p.1.1.1 q.1.1.1)

pub plant_reasons_many_plain_one :
    OneAnswer {A = (Told × List ℕ × List ℕ) × List ℕ} 8 reasons_many_plain_kinds.ps reasons_many_plain_kinds.r reasons_many_plain_contract.Post
    (λ κs number s. let answers = s.1.1.1.1.0.now in let pairs = s.1.1.1.1.1.0.now in let scratch = s.1.1.1.1.1.1.0.now in let count = s.1.1.1.1.1.1.1.0.now in let detail = s.1.1.1.1.1.1.1.1.0.now in ((told number count detail, answers, pairs), scratch))
plant_reasons_many_plain_one κs a x y s t p q =
    both (answer_and_two_rows p.0 p.1.0 p.1.1.0 q.0 q.1.0 q.1.1.0) (answer p.1.1.1 q.1.1.1)

pub plant_reasons_many_safe_one :
    OneAnswer {A = (Told × List ℕ × List ℕ) × List ℕ} 8 reasons_many_safe_kinds.ps reasons_many_safe_kinds.r reasons_many_safe_contract.Post
    (λ κs number s. let answers = s.1.1.1.1.0.now in let pairs = s.1.1.1.1.1.0.now in let scratch = s.1.1.1.1.1.1.0.now in let count = s.1.1.1.1.1.1.1.0.now in let detail = s.1.1.1.1.1.1.1.1.0.now in ((told number count detail, answers, pairs), scratch))
plant_reasons_many_safe_one κs a x y s t p q =
    both (answer_and_two_rows p.0 p.1.0 p.1.1.0 q.0 q.1.0 q.1.1.0) (answer p.1.1.1 q.1.1.1)

pub plant_reasons_many_sheet_one :
    OneAnswer {A = (Told × List ℕ × List ℕ) × List ℕ} 8 reasons_many_sheet_kinds.ps reasons_many_sheet_kinds.r reasons_many_sheet_contract.Post
    (λ κs number s. let answers = s.1.1.1.1.0.now in let pairs = s.1.1.1.1.1.0.now in let scratch = s.1.1.1.1.1.1.0.now in let count = s.1.1.1.1.1.1.1.0.now in let detail = s.1.1.1.1.1.1.1.1.0.now in ((told number count detail, answers, pairs), scratch))
plant_reasons_many_sheet_one κs a x y s t p q =
    both (answer_and_two_rows p.0 p.1.0 p.1.1.0 q.0 q.1.0 q.1.1.0) (answer p.1.1.1 q.1.1.1)
