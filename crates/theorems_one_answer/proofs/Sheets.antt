-- The line program's library: the answer, and each row that is lent to be written. Assumes nothing.
use Prim.Native.Nat.{ℕ}
use mathlib.Core.Path.{◌≡◌, sym, ◌∙◌}
use mathlib.Core.List.{List}
use Rattle.utf8.specs.Decoding.{scalars_of, Room}
use Rattle.trie_char_answers.specs.Answers.{added, removed}
use Rattle.trie_char_answers.proofs.One.{one_after}
use Rattle.sheet_input.specs.declared.Fed.{Fed}
use Rattle.sheet_replies.specs.declared.Asked.{Asked}
use Rattle.sheet_replies.specs.declared.Asked.TheVariants.{Nothing, Add, Remove, Cut}
use Rattle.sheet_texts.specs.declared.Reply.{Reply}
use Rattle.sheet_replies.specs.Replies.{PoolAfter, RowsAfter, add_text, remove_text}
use Rattle.sheet_steps.proofs.step.Kinds as step_kinds
use Rattle.sheet_steps.proofs.step.Reads as step_contract
use Rattle.sheet_steps.proofs.last.Kinds as last_kinds
use Rattle.sheet_steps.proofs.last.Reads as last_contract
use Rattle.sheet_input.proofs.feed.Kinds as feed_kinds
use Rattle.sheet_input.proofs.feed.Reads as feed_contract
use Rattle.sheet_input.proofs.finish.Kinds as finish_kinds
use Rattle.sheet_input.proofs.finish.Reads as finish_contract
use Rattle.sheet_replies.proofs.answer_line.Kinds as answer_line_kinds
use Rattle.sheet_replies.proofs.answer_line.Reads as answer_line_contract
use Rattle.sheet_replies.proofs.asks.Kinds as asks_kinds
use Rattle.sheet_replies.proofs.asks.Reads as asks_contract
use Rattle.sheet_replies.proofs.ended.Kinds as ended_kinds
use Rattle.sheet_replies.proofs.ended.Reads as ended_contract
use Rattle.sheet_texts.proofs.write_reply.Kinds as write_reply_kinds
use Rattle.sheet_texts.proofs.write_reply.Reads as write_reply_contract
use Rattle.sheet_texts.proofs.keep_number.Kinds as keep_number_kinds
use Rattle.sheet_texts.proofs.keep_number.Reads as keep_number_contract
use Rattle.sheet_bytes.proofs.keep.Kinds as keep_kinds
use Rattle.sheet_bytes.proofs.keep.Reads as keep_contract
use Rattle.sheet_bytes.proofs.count_before.Kinds as count_before_kinds
use Rattle.sheet_bytes.proofs.count_before.Reads as count_before_contract
use Rattle.sheet_bytes.proofs.line_end.Kinds as line_end_kinds
use Rattle.sheet_bytes.proofs.line_end.Reads as line_end_contract
use Rattle.sheet_bytes.proofs.front.Kinds as front_kinds
use Rattle.sheet_bytes.proofs.front.Reads as front_contract
use Rattle.theorems_one_answer.specs.OneAnswer.{OneAnswer}
use Rattle.theorems_one_answer.proofs.Shapes.{answer, both}

-- ---- the rows of a line: pool, scalars, positions, ends and scratch

abbrev pub Rows : Type 0
Rows = List ℕ × (List ℕ × (List ℕ × (List ℕ × List ℕ)))

pub pool_one : (k : Asked) (text old p q : List ℕ) (room : Room) → PoolAfter k text old p room → PoolAfter k text old q room → p ≡ q
unfolding PoolAfter
pool_one Nothing text old p q room e f = e ∙ sym f
pool_one Add text old p q room e f = one_after (add_text text old room) old p q (added (scalars_of text) 0 old) e f
pool_one Remove text old p q room e f = one_after (remove_text text old room) old p q (removed (scalars_of text) old) e f
pool_one (Cut mode) text old p q room e f = e ∙ sym f

rows_one : {k : Asked} {text pool scalars positions ends scratch p q s t m n e f c d : List ℕ} → RowsAfter k text pool p scalars s positions m ends e scratch c
    → RowsAfter k text pool q scalars t positions n ends f scratch d → ◌≡◌ {A = Rows} (p, (s, (m, (e, c)))) (q, (t, (n, (f, d))))
rows_one a b =
    both (pool_one _ _ _ _ _ _ a.pool_is b.pool_is)
    (both (answer a.scalars_are b.scalars_are)
    (both (answer a.positions_are b.positions_are) (both (answer a.ends_are b.ends_are) (answer a.scratch_is b.scratch_is))))

-- ---- the calls of a run: the answer, the line, the reply, and the rows

pub step_one : OneAnswer {A = Fed × (List ℕ × (List ℕ × Rows))} 8 step_kinds.ps step_kinds.r step_contract.Post
    (λ κs x s. (x, (s.1.0.now, (s.1.1.1.1.1.1.1.1.0.now, (s.1.1.1.0.now, (s.1.1.1.1.0.now, (s.1.1.1.1.1.0.now, (s.1.1.1.1.1.1.0.now, s.1.1.1.1.1.1.1.0.now))))))))
step_one κs a x y s t p q = both (answer p.1.0 q.1.0) (both (answer p.1.1.0 q.1.1.0) (both (answer p.1.1.1.0 q.1.1.1.0) (rows_one p.1.1.1.1 q.1.1.1.1)))

pub last_one : OneAnswer {A = ℕ × (List ℕ × Rows)} 7 last_kinds.ps last_kinds.r last_contract.Post
    (λ κs x s. (x, (s.1.1.1.1.1.1.1.0.now, (s.1.1.0.now, (s.1.1.1.0.now, (s.1.1.1.1.0.now, (s.1.1.1.1.1.0.now, s.1.1.1.1.1.1.0.now)))))))
last_one κs a x y s t p q = both (answer p.1.0 q.1.0) (both (answer p.1.1.0 q.1.1.0) (rows_one p.1.1.1 q.1.1.1))

-- ---- the same for rows of any length

pub feed_one : OneAnswer {A = Fed × (List ℕ × (List ℕ × Rows))} 8 feed_kinds.ps feed_kinds.r feed_contract.Post
    (λ κs x s. (x, (s.1.0.now, (s.1.1.1.1.1.1.1.1.0.now, (s.1.1.1.0.now, (s.1.1.1.1.0.now, (s.1.1.1.1.1.0.now, (s.1.1.1.1.1.1.0.now, s.1.1.1.1.1.1.1.0.now))))))))
feed_one κs a x y s t p q = both (answer p.0 q.0) (both (answer p.1.0 q.1.0) (both (answer p.1.1.0 q.1.1.0) (rows_one p.1.1.1 q.1.1.1)))

pub finish_one : OneAnswer {A = ℕ × (List ℕ × Rows)} 7 finish_kinds.ps finish_kinds.r finish_contract.Post
    (λ κs x s. (x, (s.1.1.1.1.1.1.1.0.now, (s.1.1.0.now, (s.1.1.1.0.now, (s.1.1.1.1.0.now, (s.1.1.1.1.1.0.now, s.1.1.1.1.1.1.0.now)))))))
finish_one κs a x y s t p q = both (answer p.0 q.0) (both (answer p.1.0 q.1.0) (rows_one p.1.1 q.1.1))

-- ---- a line

pub answer_line_one : OneAnswer {A = Reply × Rows} 6 answer_line_kinds.ps answer_line_kinds.r answer_line_contract.Post
    (λ κs x s. (x, (s.1.0.now, (s.1.1.0.now, (s.1.1.1.0.now, (s.1.1.1.1.0.now, s.1.1.1.1.1.0.now))))))
answer_line_one κs a x y s t p q = both (answer p.0 q.0) (rows_one p.1 q.1)

pub write_reply_one : OneAnswer {A = ℕ × List ℕ} 2 write_reply_kinds.ps write_reply_kinds.r write_reply_contract.Post (λ κs x s. (x, s.1.1.0.now))
write_reply_one κs a x y s t p q = both (answer p.0 q.0) (answer p.1 q.1)

pub asks_one : OneAnswer {A = Asked} 1 asks_kinds.ps asks_kinds.r asks_contract.Post (λ κs x s. x)
asks_one κs a x y s t p q = answer p q

pub ended_one : OneAnswer {A = Reply} 0 ended_kinds.ps ended_kinds.r ended_contract.Post (λ κs x s. x)
ended_one κs a x y s t p q = answer p q

pub keep_number_one : OneAnswer {A = ℕ × List ℕ} 1 keep_number_kinds.ps keep_number_kinds.r keep_number_contract.Post (λ κs x s. (x, s.0.now))
keep_number_one κs a x y s t p q = both (answer p.0 q.0) (answer p.1 q.1)

-- ---- bytes: the answer and the row

pub keep_one : OneAnswer {A = ℕ × List ℕ} 2 keep_kinds.ps keep_kinds.r keep_contract.Post (λ κs x s. (x, s.0.now))
keep_one κs a x y s t p q = both (answer p.0 q.0) (answer p.1 q.1)

pub count_before_one : OneAnswer {A = ℕ} 1 count_before_kinds.ps count_before_kinds.r count_before_contract.Post (λ κs x s. x)
count_before_one κs a x y s t p q = answer p q

pub line_end_one : OneAnswer {A = ℕ} 1 line_end_kinds.ps line_end_kinds.r line_end_contract.Post (λ κs x s. x)
line_end_one κs a x y s t p q = answer p q

-- the bytes, and where they lie
pub front_one : OneAnswer {A = List ℕ × (ℕ × ℕ)} 1 front_kinds.ps front_kinds.r front_contract.Post (λ κs x s. (x.now, x.ref_ptr))
front_one κs a x y s t p q = both (answer p.0 q.0) (answer p.1 q.1)
