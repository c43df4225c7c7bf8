-- The dictionary. Assumes nothing.
use Rattle.std.specs.Prelude.{Result}
use Rattle.refusal.specs.declared.Refusal.{Refusal}
use Prim.Native.Nat.{ℕ}
use mathlib.Core.Path.{◌≡◌}
use mathlib.Core.List.{List}
use lib.ListN.{length}
use Rattle.trie_char.proofs.fresh.Kinds as fresh_kinds
use Rattle.trie_char.proofs.fresh.Reads as fresh_contract
use Rattle.trie_char.proofs.add.Kinds as add_kinds
use Rattle.trie_char.proofs.add.Reads as add_contract
use Rattle.trie_char.proofs.add_class.Kinds as add_class_kinds
use Rattle.trie_char.proofs.add_class.Reads as add_class_contract
use Rattle.trie_char.proofs.remove.Kinds as remove_kinds
use Rattle.trie_char.proofs.remove.Reads as remove_contract
use Rattle.trie_char_read.proofs.contain.Kinds as contain_kinds
use Rattle.trie_char_read.proofs.contain.Reads as contain_contract
use Rattle.trie_char_read.proofs.prefix_lengths.Kinds as prefix_lengths_kinds
use Rattle.trie_char_read.proofs.prefix_lengths.Reads as prefix_lengths_contract
use Rattle.trie_char_read.proofs.amount_of_words.Kinds as amount_of_words_kinds
use Rattle.trie_char_read.proofs.amount_of_words.Reads as amount_of_words_contract
use Rattle.trie_char_answers.specs.Answers.{WordAnswer}
use Rattle.theorems_one_answer.specs.OneAnswer.{OneAnswer}
use Rattle.theorems_one_answer.proofs.Shapes.{answer, answer_and_output, answer_and_pool}

-- the answer and the pool
pub fresh_one : OneAnswer {A = Result ℕ Refusal × List ℕ} 1 fresh_kinds.ps fresh_kinds.r fresh_contract.Post (λ κs x s. let pool = s.0.now in (x, pool))
fresh_one κs a x y s t p q = answer_and_pool _ _ _ _ p.0 p.1 q.0 q.1

pub add_one : OneAnswer {A = Result ℕ Refusal × List ℕ} 2 add_kinds.ps add_kinds.r add_contract.Post (λ κs x s. let pool = s.0.now in (x, pool))
add_one κs a x y s t p q = answer_and_pool _ _ _ _ p.0 p.1 q.0 q.1

pub add_class_one : OneAnswer {A = Result ℕ Refusal × List ℕ} 2 add_class_kinds.ps add_class_kinds.r add_class_contract.Post (λ κs x s. let pool = s.0.now in (x, pool))
add_class_one κs a x y s t p q = answer_and_pool _ _ _ _ p.0 p.1 q.0 q.1

pub remove_one : OneAnswer {A = Result ℕ Refusal × List ℕ} 2 remove_kinds.ps remove_kinds.r remove_contract.Post (λ κs x s. let pool = s.0.now in (x, pool))
remove_one κs a x y s t p q = answer_and_pool _ _ _ _ p.0 p.1 q.0 q.1

-- the answer: held or not, and the class
pub contain_one : OneAnswer {A = WordAnswer} 2 contain_kinds.ps contain_kinds.r contain_contract.Post (λ κs x s. x)
contain_one κs a x y s t p q = answer p q

-- the answer and the output
pub prefix_lengths_one : OneAnswer {A = Result ℕ Refusal × List ℕ} 3 prefix_lengths_kinds.ps prefix_lengths_kinds.r prefix_lengths_contract.Post (λ κs x s. let out = s.1.1.0.now in (x, out))
prefix_lengths_one κs a x y s t p q = answer_and_output _ _ p.0 p.1 q.0 q.1

-- the answer
pub amount_of_words_one : OneAnswer {A = Result ℕ Refusal} 1 amount_of_words_kinds.ps amount_of_words_kinds.r amount_of_words_contract.Post (λ κs x s. x)
amount_of_words_one κs a x y s t p q = answer p q
