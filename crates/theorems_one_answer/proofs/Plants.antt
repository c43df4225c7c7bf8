-- Plant calls: no second answer fits, and what holds of their runs. Assumes nothing.
use Rattle.std.specs.Prelude.{Result}
use Rattle.newmm_rules.specs.declared.Ends.{Ends}
use Rattle.refusal.specs.declared.Refusal.{Refusal}
use Prim.Native.Nat.{ℕ}
use mathlib.Core.Path.{◌≡◌, refl, sym, ◌∙◌, ap, subst}
use mathlib.Core.List.{List, map}
use Rattle.trie_plants_change.proofs.start.Kinds as start_kinds
use Rattle.trie_plants_change.proofs.start.Reads as start_contract
use Rattle.trie_plants_change.proofs.add_in.Kinds as add_kinds
use Rattle.trie_plants_change.proofs.add_in.Reads as add_contract
use Rattle.trie_plants_change.proofs.remove_in.Kinds as remove_kinds
use Rattle.trie_plants_change.proofs.remove_in.Reads as remove_contract
use Rattle.trie_plants_read.proofs.contain_in.Kinds as contain_kinds
use Rattle.trie_plants_read.proofs.contain_in.Reads as contain_contract
use Rattle.trie_plants_read.proofs.prefix_lengths_in.Kinds as prefixes_kinds
use Rattle.trie_plants_read.proofs.prefix_lengths_in.Reads as prefixes_contract
use Rattle.trie_plants_read.proofs.amount_of_words_in.Kinds as amount_kinds
use Rattle.trie_plants_read.proofs.amount_of_words_in.Reads as amount_contract
use Rattle.newmm_plants.proofs.check_plant_cut.Kinds as check_kinds
use Rattle.newmm_plants.proofs.check_plant_cut.Reads as check_contract
use Rattle.newmm_plants.proofs.cut_in.Kinds as cut_kinds
use Rattle.newmm_plants.proofs.cut_in.Reads as cut_contract
use Rattle.newmm_plants_reasons.proofs.cut_reasons_in.Kinds as reasons_kinds
use Rattle.newmm_plants_reasons.proofs.cut_reasons_in.Reads as reasons_contract
use Rattle.newmm_plants_many.proofs.cut_many_in.Kinds as cut_many_kinds
use Rattle.newmm_plants_many.proofs.cut_many_in.Reads as cut_many_contract
use Rattle.newmm_plants_many.proofs.cut_reasons_many_in.Kinds as reasons_many_kinds
use Rattle.newmm_plants_many.proofs.cut_reasons_many_in.Reads as reasons_many_contract
use Rattle.word_list_plants.proofs.read_image_in.Kinds as read_kinds
use Rattle.word_list_plants.proofs.read_image_in.Reads as read_contract
use Rattle.word_list_plants_write.proofs.write_image_in.Kinds as write_kinds
use Rattle.word_list_plants_write.proofs.write_image_in.Reads as write_contract
use Rattle.refusal.specs.Answers.{output}
use Rattle.trie_pool.specs.Meaning.{Terms}
use Rattle.trie_char_answers.specs.Answers.{WordAnswer}
use Rattle.trie_plants.specs.declared.Plant.{Plant}
use Rattle.trie_plants_answers.specs.Answers.{start_answer, plant_prefixes}
use Rattle.trie_plants_answers.specs.Changes.{PlantAfter, Started}
use Rattle.trie_plants_answers.proofs.One.{one_plant_after, one_started}
use Rattle.word_list_plants_write.specs.Answers.{plant_image}
use Rattle.theorems_plants.specs.Plants.{Kept, Steps}
use Rattle.theorems_plants.specs.Plants as plants
use Rattle.theorems_plants.proofs.Undisturbed.{undisturbed}
use Rattle.theorems_plants.proofs.Reaching.{reached}
use Rattle.theorems_one_answer.specs.OneAnswer.{OneAnswer}
use Rattle.theorems_one_answer.specs.PlantRuns.{limit_a, limit_b, start_left, CallRun, added, removed, contained, prefixed, counted, cut_by, reasoned, cut_texts, reasoned_texts, read_in, written, plant_of, ask_of, told_by, step_of, lent_to, left_by, InTurn, nothing, next, PlantsRun, UndisturbedOfRuns, ReachedOfRuns}
use Rattle.theorems_one_answer.proofs.Shapes.{answer, both, answer_and_output, answer_and_two_rows}

-- ---- one answer

-- an answer by an equation, and what became of a plants' pool by the answer
answer_and_plants : {x y a : Result ℕ Refusal} (plant : Plant) (u v old : List ℕ) (held : Terms) → x ≡ a → PlantAfter plant x old u held → y ≡ a → PlantAfter plant y old v held
    → ◌≡◌ {A = Result ℕ Refusal × List ℕ} (x, u) (y, v)
answer_and_plants {x} {y} {a} plant u v old held p c q d =
    both (p ∙ sym q) (one_plant_after plant a old u v held (subst (λ (r : Result ℕ Refusal). PlantAfter plant r old u held) p c) (subst (λ (r : Result ℕ Refusal). PlantAfter plant r old v held) q d))

-- the answer and the pool
pub start_one : OneAnswer {A = Result ℕ Refusal × List ℕ} 1 start_kinds.ps start_kinds.r start_contract.Post (λ κs x s. let pool = s.0.now in (x, pool))
start_one κs a x y s t p q =
    both (answer p.0 q.0)
    (one_started (start_answer a.1.0 a.1.1.0 a.0.now) a.1.0 a.1.1.0 a.0.now _ _
    (subst (λ (r : Result ℕ Refusal). Started r a.1.0 a.1.1.0 a.0.now s.0.now) p.0 p.1) (subst (λ (r : Result ℕ Refusal). Started r a.1.0 a.1.1.0 a.0.now t.0.now) q.0 q.1))

pub add_in_one : OneAnswer {A = Result ℕ Refusal × List ℕ} 2 add_kinds.ps add_kinds.r add_contract.Post (λ κs x s. let pool = s.0.now in (x, pool))
add_in_one κs a x y s t p q = answer_and_plants a.1.0 _ _ _ _ p.0 p.1 q.0 q.1

pub remove_in_one : OneAnswer {A = Result ℕ Refusal × List ℕ} 2 remove_kinds.ps remove_kinds.r remove_contract.Post (λ κs x s. let pool = s.0.now in (x, pool))
remove_in_one κs a x y s t p q = answer_and_plants a.1.0 _ _ _ _ p.0 p.1 q.0 q.1

pub read_image_in_one : OneAnswer {A = Result ℕ Refusal × List ℕ} 2 read_kinds.ps read_kinds.r read_contract.Post (λ κs x s. let pool = s.0.now in (x, pool))
read_image_in_one κs a x y s t p q = answer_and_plants a.1.0 _ _ _ _ p.0 p.1 q.0 q.1

-- the answer: held or not, and the class
pub contain_in_one : OneAnswer {A = WordAnswer} 2 contain_kinds.ps contain_kinds.r contain_contract.Post (λ κs x s. x)
contain_in_one κs a x y s t p q = answer p q

-- the answer
pub amount_of_words_in_one : OneAnswer {A = Result ℕ Refusal} 1 amount_kinds.ps amount_kinds.r amount_contract.Post (λ κs x s. x)
amount_of_words_in_one κs a x y s t p q = answer p q

pub check_plant_cut_one : OneAnswer {A = Result ℕ Refusal} 2 check_kinds.ps check_kinds.r check_contract.Post (λ κs x s. x)
check_plant_cut_one κs a x y s t p q = answer p q

-- the answer and the output
pub prefix_lengths_in_one : OneAnswer {A = Result ℕ Refusal × List ℕ} 3 prefixes_kinds.ps prefixes_kinds.r prefixes_contract.Post (λ κs x s. let out = s.1.1.1.0.now in (x, out))
prefix_lengths_in_one κs a x y s t p q = answer_and_output _ _ p.0 p.1 q.0 q.1

pub write_image_in_one : OneAnswer {A = Result ℕ Refusal × List ℕ} 2 write_kinds.ps write_kinds.r write_contract.Post (λ κs x s. let out = s.1.1.0.now in (x, out))
write_image_in_one κs a x y s t p q = answer_and_output _ _ p.0 p.1 q.0 q.1

-- the answer, the output and the scratch
pub cut_in_one : OneAnswer {A = Result Ends Refusal × List ℕ × List ℕ} 4 cut_kinds.ps cut_kinds.r cut_contract.Post (λ κs x s. let out = s.1.1.1.0.now in let scratch = s.1.1.1.1.0.now in (x, out, scratch))
cut_in_one κs a x y s t p q = answer_and_two_rows p.0 p.1.0 p.1.1 q.0 q.1.0 q.1.1

pub cut_reasons_in_one : OneAnswer {A = Result Ends Refusal × List ℕ × List ℕ} 4 reasons_kinds.ps reasons_kinds.r reasons_contract.Post (λ κs x s. let pairs = s.1.1.1.0.now in let scratch = s.1.1.1.1.0.now in (x, pairs, scratch))
cut_reasons_in_one κs a x y s t p q = answer_and_two_rows p.0 p.1.0 p.1.1 q.0 q.1.0 q.1.1

-- the answer, the answers of the texts, the output and the scratch
pub cut_many_in_one : OneAnswer {A = (Result ℕ Refusal × List ℕ × List ℕ) × List ℕ} 6 cut_many_kinds.ps cut_many_kinds.r cut_many_contract.Post
    (λ κs x s. let answers = s.1.1.1.1.0.now in let out = s.1.1.1.1.1.0.now in let scratch = s.1.1.1.1.1.1.0.now in ((x, answers, out), scratch))
cut_many_in_one κs a x y s t p q =
    both (answer_and_two_rows p.0 p.1.0 p.1.1.0 q.0 q.1.0 q.1.1.0) (answer p.1.1.1 q.1.1.1)

pub cut_reasons_many_in_one : OneAnswer {A = (Result ℕ Refusal × List ℕ × List ℕ) × List ℕ} 6 reasons_many_kinds.ps reasons_many_kinds.r reasons_many_contract.Post
    (λ κs x s. let answers = s.1.1.1.1.0.now in let pairs = s.1.1.1.1.1.0.now in let scratch = s.1.1.1.1.1.1.0.now in ((x, answers, pairs), scratch))
cut_reasons_many_in_one κs a x y s t p q =
    both (answer_and_two_rows p.0 p.1.0 p.1.1.0 q.0 q.1.0 q.1.1.0) (answer p.1.1.1 q.1.1.1)

-- ---- runs

-- a change as the contract says it, by the answer that was given
by_answer : (plant : Plant) (x a : Result ℕ Refusal) (old new : List ℕ) (held : Terms) → x ≡ a → PlantAfter plant x old new held → PlantAfter plant a old new held
by_answer plant x a old new held e c = subst (λ (r : Result ℕ Refusal). PlantAfter plant r old new held) e c

-- an output as the contract says it, likewise
row_is : (x a : Result ℕ Refusal) (u : List ℕ) (out : Result ℕ Refusal → List ℕ) → x ≡ a → u ≡ out x → plants.row x u ≡ plants.row a (out a)
row_is x a u out e c = (λ i. plants.row (e i) (c i)) ∙ (λ i. plants.row a (out (e i)))

-- what the contract of its function says of a run
pub kept : (r : CallRun) → Kept (plant_of r) (ask_of r) (lent_to r) (left_by r) (told_by r)
kept (added r) = record { answered = ap plants.number r.promise.0; left = by_answer r.arguments.1.0 _ _ _ _ _ r.promise.0 r.promise.1 }
kept (removed r) = record { answered = ap plants.number r.promise.0; left = by_answer r.arguments.1.0 _ _ _ _ _ r.promise.0 r.promise.1 }
kept (contained r) = record { answered = ap plants.held r.promise; left = refl }
kept (prefixed r) =
    let a = r.arguments in
    record { answered = row_is _ _ _ (λ z. output z (plant_prefixes a.1.0 a.1.1.0.now a.0.now) a.1.1.1.0.now) r.promise.0 r.promise.1; left = refl }
kept (counted r) = record { answered = ap plants.number r.promise; left = refl }
kept (cut_by r) = let p = r.promise in record { answered = λ i. plants.rows (p.0 i) (p.1.0 i) (p.1.1 i); left = refl }
kept (reasoned r) = let p = r.promise in record { answered = λ i. plants.rows (p.0 i) (p.1.0 i) (p.1.1 i); left = refl }
kept (cut_texts r) = let p = r.promise in record { answered = λ i. plants.texts (p.0 i) (p.1.0 i) (p.1.1.0 i) (p.1.1.1 i); left = refl }
kept (reasoned_texts r) = let p = r.promise in record { answered = λ i. plants.texts (p.0 i) (p.1.0 i) (p.1.1.0 i) (p.1.1.1 i); left = refl }
kept (read_in r) = record { answered = ap plants.number r.promise.0; left = by_answer r.arguments.1.0 _ _ _ _ _ r.promise.0 r.promise.1 }
kept (written r) =
    let a = r.arguments in
    record { answered = row_is _ _ _ (λ z. output z (plant_image a.1.0 a.0.now) a.1.1.0.now) r.promise.0 r.promise.1; left = refl }

steps : {rs : List CallRun} {pool new : List ℕ} → InTurn rs pool new → Steps (map step_of rs) pool new
steps nothing = plants.nothing
steps (next r {pool = pool} lent rs) = plants.next (step_of r) (subst (λ (p : List ℕ). Kept (plant_of r) (ask_of r) p (left_by r) (told_by r)) lent (kept r)) (steps rs)

run_is : {calls : List CallRun} {pool : List ℕ} (r : PlantsRun calls pool) → plants.Run (limit_a r.start) (limit_b r.start) (map step_of calls) pool
run_is r =
    let s = r.start in
    record {
      lent = s.arguments.0.now;
      begun = start_left s;
      told = r.told;
      accepted = sym s.promise.0 ∙ r.accepted;
      started = subst (λ (x : Result ℕ Refusal). Started x (limit_a s) (limit_b s) s.arguments.0.now (start_left s)) r.accepted s.promise.1;
      calls = steps r.turns;
    }

pub undisturbed_of_runs : UndisturbedOfRuns
undisturbed_of_runs plant one two p q r s limit asked =
    (undisturbed plant (limit_a r.start) (limit_b r.start) (limit_a s.start) (limit_b s.start) (map step_of one) (map step_of two) p q (run_is r) (run_is s) limit asked).0

pub reached_of_runs : ReachedOfRuns
reached_of_runs calls pool r = let e = reached (limit_a r.start) (limit_b r.start) (map step_of calls) pool (run_is r) in (e.0, e.2)
