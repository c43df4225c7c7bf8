-- The lines of a word list: no second answer fits. Assumes nothing.
use Rattle.std.specs.Prelude.{Result}
use Rattle.refusal.specs.declared.Refusal.{Refusal}
use Prim.Native.Nat.{ℕ}
use mathlib.Core.Path.{◌≡◌, sym, ◌∙◌}
use mathlib.Core.Bool.{Bool, true, false}
use mathlib.Core.List.{List}
use Rattle.word_lines.proofs.take_line.Kinds as take_kinds
use Rattle.word_lines.proofs.take_line.Reads as take_contract
use Rattle.word_lines.proofs.write_line.Kinds as write_kinds
use Rattle.word_lines.proofs.write_line.Reads as write_contract
use Rattle.trie_pool.specs.Meaning.{Terms}
use Rattle.utf8.specs.Decoding.{scalars_of, room_in}
use Rattle.trie_char_answers.specs.Answers.{added}
use Rattle.trie_char_answers.proofs.One.{one_after}
use Rattle.word_lines.specs.Lines.{Taken, class_of, word_of, is_term, add_term, PoolBy}
use Rattle.theorems_one_answer.specs.OneAnswer.{OneAnswer}
use Rattle.theorems_one_answer.proofs.Shapes.{answer, both}

pool_by_one : (b : Bool) (r : Result ℕ Refusal) (old p q : List ℕ) (held : Terms) → PoolBy b r old p held → PoolBy b r old q held → p ≡ q
pool_by_one true r old p q held e f = one_after r old p q held e f
pool_by_one false r old p q held e f = e ∙ sym f

-- what became of the line, the pool, and the rows of its word
pub take_line_one : OneAnswer {A = Taken × (List ℕ × (List ℕ × List ℕ))} 4 take_kinds.ps take_kinds.r take_contract.Post
    (λ κs x s. (x, (s.1.0.now, (s.1.1.0.now, s.1.1.1.0.now))))
take_line_one κs a x y s t p q =
    let line = a.0.now in let pool = a.1.0.now in let room = room_in a.1.1.0.now a.1.1.1.0.now in
    both (answer p.0 q.0)
    (both (pool_by_one (is_term line) (add_term (word_of line) (class_of line) pool room) pool _ _
    (added (scalars_of (word_of line)) (class_of line) pool) p.1.0 q.1.0) (both (answer p.1.1.0 q.1.1.0) (answer p.1.1.1 q.1.1.1)))

-- how many bytes, and the row
pub write_line_one : OneAnswer {A = ℕ × List ℕ} 2 write_kinds.ps write_kinds.r write_contract.Post (λ κs x s. (x, s.1.1.0.now))
write_line_one κs a x y s t p q = both (answer p.0 q.0) (answer p.1 q.1)
