-- The operations for hosts: what is told, and the rows. Each place of `s` is named by the parameter
-- that stands there. Assumes nothing.
use Prim.Native.Nat.{ℕ}
use mathlib.Core.List.{List}
use Rattle.fetlockice.proofs.fetlockice_decode.Kinds as decode_kinds
use Rattle.fetlockice.proofs.fetlockice_decode.Reads as decode_contract
use Rattle.fetlockice.proofs.fetlockice_end_in_bytes.Kinds as end_in_bytes_kinds
use Rattle.fetlockice.proofs.fetlockice_end_in_bytes.Reads as end_in_bytes_contract
use Rattle.fetlockice.proofs.fetlockice_clusters.Kinds as clusters_kinds
use Rattle.fetlockice.proofs.fetlockice_clusters.Reads as clusters_contract
use Rattle.fetlockice.proofs.fetlockice_winners.Kinds as winners_kinds
use Rattle.fetlockice.proofs.fetlockice_winners.Reads as winners_contract
use Rattle.fetlockice.proofs.fetlockice_fresh.Kinds as fresh_kinds
use Rattle.fetlockice.proofs.fetlockice_fresh.Reads as fresh_contract
use Rattle.fetlockice.proofs.fetlockice_add.Kinds as add_kinds
use Rattle.fetlockice.proofs.fetlockice_add.Reads as add_contract
use Rattle.fetlockice.proofs.fetlockice_add_class.Kinds as add_class_kinds
use Rattle.fetlockice.proofs.fetlockice_add_class.Reads as add_class_contract
use Rattle.fetlockice.proofs.fetlockice_remove.Kinds as remove_kinds
use Rattle.fetlockice.proofs.fetlockice_remove.Reads as remove_contract
use Rattle.fetlockice.proofs.fetlockice_contains.Kinds as contains_kinds
use Rattle.fetlockice.proofs.fetlockice_contains.Reads as contains_contract
use Rattle.fetlockice.proofs.fetlockice_contains_class.Kinds as contains_class_kinds
use Rattle.fetlockice.proofs.fetlockice_contains_class.Reads as contains_class_contract
use Rattle.fetlockice.proofs.fetlockice_prefix_lengths.Kinds as prefix_lengths_kinds
use Rattle.fetlockice.proofs.fetlockice_prefix_lengths.Reads as prefix_lengths_contract
use Rattle.fetlockice.proofs.fetlockice_word_count.Kinds as word_count_kinds
use Rattle.fetlockice.proofs.fetlockice_word_count.Reads as word_count_contract
use Rattle.fetlockice.proofs.fetlockice_read_image.Kinds as read_image_kinds
use Rattle.fetlockice.proofs.fetlockice_read_image.Reads as read_image_contract
use Rattle.fetlockice.proofs.fetlockice_write_image.Kinds as write_image_kinds
use Rattle.fetlockice.proofs.fetlockice_write_image.Reads as write_image_contract
use Rattle.fetlockice.proofs.fetlockice_cut_plain.Kinds as cut_plain_kinds
use Rattle.fetlockice.proofs.fetlockice_cut_plain.Reads as cut_plain_contract
use Rattle.fetlockice.proofs.fetlockice_cut_safe.Kinds as cut_safe_kinds
use Rattle.fetlockice.proofs.fetlockice_cut_safe.Reads as cut_safe_contract
use Rattle.fetlockice.proofs.fetlockice_cut_sheet.Kinds as cut_sheet_kinds
use Rattle.fetlockice.proofs.fetlockice_cut_sheet.Reads as cut_sheet_contract
use Rattle.fetlockice.proofs.fetlockice_reasons_plain.Kinds as reasons_plain_kinds
use Rattle.fetlockice.proofs.fetlockice_reasons_plain.Reads as reasons_plain_contract
use Rattle.fetlockice.proofs.fetlockice_reasons_safe.Kinds as reasons_safe_kinds
use Rattle.fetlockice.proofs.fetlockice_reasons_safe.Reads as reasons_safe_contract
use Rattle.fetlockice.proofs.fetlockice_reasons_sheet.Kinds as reasons_sheet_kinds
use Rattle.fetlockice.proofs.fetlockice_reasons_sheet.Reads as reasons_sheet_contract
use Rattle.fetlockice.proofs.fetlockice_check_claim.Kinds as check_claim_kinds
use Rattle.fetlockice.proofs.fetlockice_check_claim.Reads as check_claim_contract
use Rattle.fetlockice.proofs.fetlockice_cut_many_plain.Kinds as many_plain_kinds
use Rattle.fetlockice.proofs.fetlockice_cut_many_plain.Reads as many_plain_contract
use Rattle.fetlockice.proofs.fetlockice_cut_many_safe.Kinds as many_safe_kinds
use Rattle.fetlockice.proofs.fetlockice_cut_many_safe.Reads as many_safe_contract
use Rattle.fetlockice.proofs.fetlockice_cut_many_sheet.Kinds as many_sheet_kinds
use Rattle.fetlockice.proofs.fetlockice_cut_many_sheet.Reads as many_sheet_contract
use Rattle.fetlockice.proofs.fetlockice_reasons_many_plain.Kinds as reasons_many_plain_kinds
use Rattle.fetlockice.proofs.fetlockice_reasons_many_plain.Reads as reasons_many_plain_contract
use Rattle.fetlockice.proofs.fetlockice_reasons_many_safe.Kinds as reasons_many_safe_kinds
use Rattle.fetlockice.proofs.fetlockice_reasons_many_safe.Reads as reasons_many_safe_contract
use Rattle.fetlockice.proofs.fetlockice_reasons_many_sheet.Kinds as reasons_many_sheet_kinds
use Rattle.fetlockice.proofs.fetlockice_reasons_many_sheet.Reads as reasons_many_sheet_contract
use Rattle.fetlockice.proofs.fetlockice_break_map.Kinds as break_map_kinds
use Rattle.fetlockice.proofs.fetlockice_break_map.Reads as break_map_contract
use Rattle.fetlockice.proofs.fetlockice_breaks_up_to.Kinds as breaks_up_to_kinds
use Rattle.fetlockice.proofs.fetlockice_breaks_up_to.Reads as breaks_up_to_contract
use Rattle.fetlockice.proofs.fetlockice_next_break.Kinds as next_break_kinds
use Rattle.fetlockice.proofs.fetlockice_next_break.Reads as next_break_contract
use Rattle.trie_pool.specs.Meaning.{no_term}
use Rattle.trie_char_answers.proofs.One.{one_after}
use Rattle.trie_char_answers.specs.Answers.{fresh_answer, add_answer, remove_answer, added, removed}
use Rattle.word_list_answers.specs.Answers.{read_answer, image_terms}
use Rattle.host_telling.specs.Told.{Told, told, told_cut}
use Rattle.host_texts.specs.Calls.{ToldEnd, told_end}
use Rattle.host_claims.specs.Calls.{ToldClaim, told_claim}
use Rattle.host_maps.specs.Calls.{ToldNext, told_next}
use Rattle.theorems_one_answer.specs.OneAnswer.{OneAnswer}
use Rattle.theorems_one_answer.proofs.Shapes.{answer, both, answer_and_two_rows}

pub decode_one :
    OneAnswer {A = Told × List ℕ × List ℕ} 5 decode_kinds.ps decode_kinds.r decode_contract.Post
    (λ κs number s. let out = s.1.0.now in let positions = s.1.1.0.now in let count = s.1.1.1.0.now in let detail = s.1.1.1.1.0.now in (told number count detail, out, positions))
decode_one κs a x y s t p q = answer_and_two_rows p.0 p.1.0 p.1.1 q.0 q.1.0 q.1.1

pub end_in_bytes_one :
    OneAnswer {A = ToldEnd} 3 end_in_bytes_kinds.ps end_in_bytes_kinds.r end_in_bytes_contract.Post
    (λ κs number s. let found = s.1.1.1.0.now in let place = s.1.1.1.1.0.now in told_end number found place)
end_in_bytes_one κs a x y s t p q = answer p q

pub clusters_one :
    OneAnswer {A = Told × List ℕ} 4 clusters_kinds.ps clusters_kinds.r clusters_contract.Post
    (λ κs number s. let out = s.1.0.now in let count = s.1.1.0.now in let detail = s.1.1.1.0.now in (told number count detail, out))
clusters_one κs a x y s t p q = both (answer p.0 q.0) (answer p.1 q.1)

pub winners_one :
    OneAnswer {A = Told × List ℕ × List ℕ} 5 winners_kinds.ps winners_kinds.r winners_contract.Post
    (λ κs number s. let ends = s.1.0.now in let winners = s.1.1.0.now in let count = s.1.1.1.0.now in let detail = s.1.1.1.1.0.now in (told number count detail, ends, winners))
winners_one κs a x y s t p q = answer_and_two_rows p.0 p.1.0 p.1.1 q.0 q.1.0 q.1.1

pub fresh_one :
    OneAnswer {A = Told × List ℕ} 3 fresh_kinds.ps fresh_kinds.r fresh_contract.Post
    (λ κs number s. let pool = s.0.now in let count = s.1.0.now in let detail = s.1.1.0.now in (told number count detail, pool))
fresh_one κs a x y s t p q = both (answer p.0 q.0) (one_after (fresh_answer a.0.now) a.0.now _ _ no_term p.1 q.1)

pub add_one :
    OneAnswer {A = Told × List ℕ} 4 add_kinds.ps add_kinds.r add_contract.Post
    (λ κs number s. let pool = s.0.now in let count = s.1.1.0.now in let detail = s.1.1.1.0.now in (told number count detail, pool))
add_one κs a x y s t p q = both (answer p.0 q.0) (one_after (add_answer a.1.0.now 0 a.0.now) a.0.now _ _ (added a.1.0.now 0 a.0.now) p.1 q.1)

pub add_class_one :
    OneAnswer {A = Told × List ℕ} 4 add_class_kinds.ps add_class_kinds.r add_class_contract.Post
    (λ κs number s. let pool = s.0.now in let count = s.1.1.1.0.now in let detail = s.1.1.1.1.0.now in (told number count detail, pool))
add_class_one κs a x y s t p q =
    both (answer p.0 q.0)
    (one_after (add_answer a.1.0.now a.1.1.0 a.0.now) a.0.now _ _ (added a.1.0.now a.1.1.0 a.0.now) p.1 q.1)

pub remove_one :
    OneAnswer {A = Told × List ℕ} 4 remove_kinds.ps remove_kinds.r remove_contract.Post
    (λ κs number s. let pool = s.0.now in let count = s.1.1.0.now in let detail = s.1.1.1.0.now in (told number count detail, pool))
remove_one κs a x y s t p q = both (answer p.0 q.0) (one_after (remove_answer a.1.0.now a.0.now) a.0.now _ _ (removed a.1.0.now a.0.now) p.1 q.1)

pub contains_one :
    OneAnswer {A = Told} 4 contains_kinds.ps contains_kinds.r contains_contract.Post
    (λ κs number s. let count = s.1.1.0.now in let detail = s.1.1.1.0.now in told number count detail)
contains_one κs a x y s t p q = answer p q

pub contains_class_one :
    OneAnswer {A = Told × ℕ} 5 contains_class_kinds.ps contains_class_kinds.r contains_class_contract.Post
    (λ κs number s. let count = s.1.1.0.now in let class = s.1.1.1.0.now in let detail = s.1.1.1.1.0.now in (told number count detail, class))
contains_class_one κs a x y s t p q = both (answer p.0 q.0) (answer p.1 q.1)

pub prefix_lengths_one :
    OneAnswer {A = Told × List ℕ} 5 prefix_lengths_kinds.ps prefix_lengths_kinds.r prefix_lengths_contract.Post
    (λ κs number s. let out = s.1.1.0.now in let count = s.1.1.1.0.now in let detail = s.1.1.1.1.0.now in (told number count detail, out))
prefix_lengths_one κs a x y s t p q = both (answer p.0 q.0) (answer p.1 q.1)

pub word_count_one :
    OneAnswer {A = Told} 3 word_count_kinds.ps word_count_kinds.r word_count_contract.Post
    (λ κs number s. let count = s.1.0.now in let detail = s.1.1.0.now in told number count detail)
word_count_one κs a x y s t p q = answer p q

pub read_image_one :
    OneAnswer {A = Told × List ℕ} 4 read_image_kinds.ps read_image_kinds.r read_image_contract.Post
    (λ κs number s. let pool = s.0.now in let count = s.1.1.0.now in let detail = s.1.1.1.0.now in (told number count detail, pool))
read_image_one κs a x y s t p q = both (answer p.0 q.0) (one_after (read_answer a.1.0.now a.0.now) a.0.now _ _ (image_terms a.1.0.now) p.1 q.1)

pub write_image_one :
    OneAnswer {A = Told × List ℕ} 4 write_image_kinds.ps write_image_kinds.r write_image_contract.Post
    (λ κs number s. let out = s.1.0.now in let count = s.1.1.0.now in let detail = s.1.1.1.0.now in (told number count detail, out))
write_image_one κs a x y s t p q = both (answer p.0 q.0) (answer p.1 q.1)

pub cut_plain_one :
    OneAnswer {A = Told × List ℕ × List ℕ} 7 cut_plain_kinds.ps cut_plain_kinds.r cut_plain_contract.Post
    (λ κs number s. let out = s.1.1.0.now in let scratch = s.1.1.1.0.now in let count = s.1.1.1.1.0.now in let edges = s.1.1.1.1.1.0.now in let detail = s.1.1.1.1.1.1.0.now in (told_cut number count edges detail, out, scratch))
cut_plain_one κs a x y s t p q = answer_and_two_rows p.0 p.1.0 p.1.1 q.0 q.1.0 q.1.1

pub cut_safe_one :
    OneAnswer {A = Told × List ℕ × List ℕ} 7 cut_safe_kinds.ps cut_safe_kinds.r cut_safe_contract.Post
    (λ κs number s. let out = s.1.1.0.now in let scratch = s.1.1.1.0.now in let count = s.1.1.1.1.0.now in let edges = s.1.1.1.1.1.0.now in let detail = s.1.1.1.1.1.1.0.now in (told_cut number count edges detail, out, scratch))
cut_safe_one κs a x y s t p q = answer_and_two_rows p.0 p.1.0 p.1.1 q.0 q.1.0 q.1.1

pub cut_sheet_one :
    OneAnswer {A = Told × List ℕ × List ℕ} 7 cut_sheet_kinds.ps cut_sheet_kinds.r cut_sheet_contract.Post
    (λ κs number s. let out = s.1.1.0.now in let scratch = s.1.1.1.0.now in let count = s.1.1.1.1.0.now in let edges = s.1.1.1.1.1.0.now in let detail = s.1.1.1.1.1.1.0.now in (told_cut number count edges detail, out, scratch))
cut_sheet_one κs a x y s t p q = answer_and_two_rows p.0 p.1.0 p.1.1 q.0 q.1.0 q.1.1

pub reasons_plain_one :
    OneAnswer {A = Told × List ℕ × List ℕ} 7 reasons_plain_kinds.ps reasons_plain_kinds.r reasons_plain_contract.Post
    (λ κs number s. let pairs = s.1.1.0.now in let scratch = s.1.1.1.0.now in let count = s.1.1.1.1.0.now in let edges = s.1.1.1.1.1.0.now in let detail = s.1.1.1.1.1.1.0.now in (told_cut number count edges detail, pairs, scratch))
reasons_plain_one κs a x y s t p q = answer_and_two_rows p.0 p.1.0 p.1.1 q.0 q.1.0 q.1.1

pub reasons_safe_one :
    OneAnswer {A = Told × List ℕ × List ℕ} 7 reasons_safe_kinds.ps reasons_safe_kinds.r reasons_safe_contract.Post
    (λ κs number s. let pairs = s.1.1.0.now in let scratch = s.1.1.1.0.now in let count = s.1.1.1.1.0.now in let edges = s.1.1.1.1.1.0.now in let detail = s.1.1.1.1.1.1.0.now in (told_cut number count edges detail, pairs, scratch))
reasons_safe_one κs a x y s t p q = answer_and_two_rows p.0 p.1.0 p.1.1 q.0 q.1.0 q.1.1

pub reasons_sheet_one :
    OneAnswer {A = Told × List ℕ × List ℕ} 7 reasons_sheet_kinds.ps reasons_sheet_kinds.r reasons_sheet_contract.Post
    (λ κs number s. let pairs = s.1.1.0.now in let scratch = s.1.1.1.0.now in let count = s.1.1.1.1.0.now in let edges = s.1.1.1.1.1.0.now in let detail = s.1.1.1.1.1.1.0.now in (told_cut number count edges detail, pairs, scratch))
reasons_sheet_one κs a x y s t p q = answer_and_two_rows p.0 p.1.0 p.1.1 q.0 q.1.0 q.1.1

pub check_claim_one :
    OneAnswer {A = ToldClaim × List ℕ} 7 check_claim_kinds.ps check_claim_kinds.r check_claim_contract.Post
    (λ κs number s. let scratch = s.1.1.1.0.now in let right = s.1.1.1.1.0.now in let token = s.1.1.1.1.1.0.now in let detail = s.1.1.1.1.1.1.0.now in (told_claim number right token detail, scratch))
check_claim_one κs a x y s t p q = both (answer p.0 q.0) (answer p.1 q.1)

pub cut_many_plain_one :
    OneAnswer {A = (Told × List ℕ × List ℕ) × List ℕ} 8 many_plain_kinds.ps many_plain_kinds.r many_plain_contract.Post
    (λ κs number s. let answers = s.1.1.1.0.now in let out = s.1.1.1.1.0.now in let scratch = s.1.1.1.1.1.0.now in let count = s.1.1.1.1.1.1.0.now in let detail = s.1.1.1.1.1.1.1.0.now in ((told number count detail, answers, out), scratch))
cut_many_plain_one κs a x y s t p q =
    both (answer_and_two_rows p.0 p.1.0 p.1.1.0 q.0 q.1.0 q.1.1.0) (answer p.1.1.1 q.1.1.1)

pub cut_many_safe_one :
    OneAnswer {A = (Told × List ℕ × List ℕ) × List ℕ} 8 many_safe_kinds.ps many_safe_kinds.r many_safe_contract.Post
    (λ κs number s. let answers = s.1.1.1.0.now in let out = s.1.1.1.1.0.now in let scratch = s.1.1.1.1.1.0.now in let count = s.1.1.1.1.1.1.0.now in let detail = s.1.1.1.1.1.1.1.0.now in ((told number count detail, answers, out), scratch))
cut_many_safe_one κs a x y s t p q =
    both (answer_and_two_rows p.0 p.1.0 p.1.1.0 q.0 q.1.0 q.1.1.0) (answer p.1.1.1 q.1.1.1)

pub cut_many_sheet_one :
    OneAnswer {A = (Told × List ℕ × List ℕ) × List ℕ} 8 many_sheet_kinds.ps many_sheet_kinds.r many_sheet_contract.Post
    (λ κs number s. let answers = s.1.1.1.0.now in let out = s.1.1.1.1.0.now in let scratch = s.1.1.1.1.1.0.now in let count = s.1.1.1.1.1.1.0.now in let detail = s.1.1.1.1.1.1.1.0.now in ((told number count detail, answers, out), scratch))
cut_many_sheet_one κs a x y s t p q =
    both (answer_and_two_rows p.0 p.1.0 p.1.1.0 q.0 q.1.0 q.1.1.0) (answer p.1.1.1 q.1.1.1)

pub reasons_many_plain_one :
    OneAnswer {A = (Told × List ℕ × List ℕ) × List ℕ} 8 reasons_many_plain_kinds.ps reasons_many_plain_kinds.r reasons_many_plain_contract.Post
    (λ κs number s. let answers = s.1.1.1.0.now in let pairs = s.1.1.1.1.0.now in let scratch = s.1.1.1.1.1.0.now in let count = s.1.1.1.1.1.1.0.now in let detail = s.1.1.1.1.1.1.1.0.now in ((told number count detail, answers, pairs), scratch))
reasons_many_plain_one κs a x y s t p q =
    both (answer_and_two_rows p.0 p.1.0 p.1.1.0 q.0 q.1.0 q.1.1.0) (answer p.1.1.1 q.1.1.1)

pub reasons_many_safe_one :
    OneAnswer {A = (Told × List ℕ × List ℕ) × List ℕ} 8 reasons_many_safe_kinds.ps reasons_many_safe_kinds.r reasons_many_safe_contract.Post
    (λ κs number s. let answers = s.1.1.1.0.now in let pairs = s.1.1.1.1.0.now in let scratch = s.1.1.1.1.1.0.now in let count = s.1.1.1.1.1.1.0.now in let detail = s.1.1.1.1.1.1.1.0.now in ((told number count detail, answers, pairs), scratch))
reasons_many_safe_one κs a x y s t p q =
    both (answer_and_two_rows p.0 p.1.0 p.1.1.0 q.0 q.1.0 q.1.1.0) (answer p.1.1.1 q.1.1.1)

pub reasons_many_sheet_one :
    OneAnswer {A = (Told × List ℕ × List ℕ) × List ℕ} 8 reasons_many_sheet_kinds.ps reasons_many_sheet_kinds.r reasons_many_sheet_contract.Post
    (λ κs number s. let answers = s.1.1.1.0.now in let pairs = s.1.1.1.1.0.now in let scratch = s.1.1.1.1.1.0.now in let count = s.1.1.1.1.1.1.0.now in let detail = s.1.1.1.1.1.1.1.0.now in ((told number count detail, answers, pairs), scratch))
reasons_many_sheet_one κs a x y s t p q =
    both (answer_and_two_rows p.0 p.1.0 p.1.1.0 q.0 q.1.0 q.1.1.0) (answer p.1.1.1 q.1.1.1)

pub break_map_one :
    OneAnswer {A = Told × List ℕ} 4 break_map_kinds.ps break_map_kinds.r break_map_contract.Post
    (λ κs number s. let map = s.1.1.0.now in let count = s.1.1.1.0.now in let detail = s.1.1.1.1.0.now in (told number count detail, map))
break_map_one κs a x y s t p q = both (answer p.0 q.0) (answer p.1 q.1)

pub breaks_up_to_one :
    OneAnswer {A = Told} 3 breaks_up_to_kinds.ps breaks_up_to_kinds.r breaks_up_to_contract.Post
    (λ κs number s. let count = s.1.1.1.0.now in let detail = s.1.1.1.1.0.now in told number count detail)
breaks_up_to_one κs a x y s t p q = answer p q

pub next_break_one :
    OneAnswer {A = ToldNext} 4 next_break_kinds.ps next_break_kinds.r next_break_contract.Post
    (λ κs number s. let found = s.1.1.1.0.now in let place = s.1.1.1.1.0.now in let detail = s.1.1.1.1.1.0.now in told_next number found place detail)
next_break_one κs a x y s t p q = answer p q
