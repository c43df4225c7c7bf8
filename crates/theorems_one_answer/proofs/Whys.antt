-- The library of the program that says why: the answer, and each row that is lent to be written.
-- Assumes nothing.
use Prim.Native.Nat.{ℕ}
use mathlib.Core.Path.{◌≡◌}
use mathlib.Core.List.{List}
use Rattle.sheet_input.specs.declared.Fed.{Fed}
use Rattle.sheet_replies.specs.declared.Asked.{Asked}
use Rattle.why_replies.specs.Replies.{Cutting, RowsAfter}
use Rattle.why_input.proofs.step.Kinds as step_kinds
use Rattle.why_input.proofs.step.Reads as step_contract
use Rattle.why_input.proofs.last.Kinds as last_kinds
use Rattle.why_input.proofs.last.Reads as last_contract
use Rattle.why_replies.proofs.cutting_in.Kinds as cutting_in_kinds
use Rattle.why_replies.proofs.cutting_in.Reads as cutting_in_contract
use Rattle.why_replies.proofs.text_in.Kinds as text_in_kinds
use Rattle.why_replies.proofs.text_in.Reads as text_in_contract
use Rattle.why_replies.proofs.explain_line.Kinds as explain_line_kinds
use Rattle.why_replies.proofs.explain_line.Reads as explain_line_contract
use Rattle.why_texts.proofs.write_why.Kinds as write_why_kinds
use Rattle.why_texts.proofs.write_why.Reads as write_why_contract
use Rattle.theorems_one_answer.specs.OneAnswer.{OneAnswer}
use Rattle.theorems_one_answer.proofs.Shapes.{answer, both}
use Rattle.theorems_one_answer.proofs.Sheets.{Rows, pool_one}

-- the rows of a line: pool, scalars, positions, pairs and scratch
rows_one : {k : Asked} {text pool scalars positions pairs scratch p q s t m n e f c d : List ℕ} → RowsAfter k text pool p scalars s positions m pairs e scratch c
    → RowsAfter k text pool q scalars t positions n pairs f scratch d → ◌≡◌ {A = Rows} (p, (s, (m, (e, c)))) (q, (t, (n, (f, d))))
rows_one a b =
    both (pool_one _ _ _ _ _ _ a.pool_is b.pool_is)
    (both (answer a.scalars_are b.scalars_are)
    (both (answer a.positions_are b.positions_are) (both (answer a.pairs_are b.pairs_are) (answer a.scratch_is b.scratch_is))))

-- ---- the calls of a run: the answer, the line, what is told, and the rows

pub step_one : OneAnswer {A = Fed × (List ℕ × (List ℕ × Rows))} 8 step_kinds.ps step_kinds.r step_contract.Post
    (λ κs x s. (x, (s.1.0.now, (s.1.1.1.1.1.1.1.1.0.now, (s.1.1.1.0.now, (s.1.1.1.1.0.now, (s.1.1.1.1.1.0.now, (s.1.1.1.1.1.1.0.now, s.1.1.1.1.1.1.1.0.now))))))))
step_one κs a x y s t p q = both (answer p.0 q.0) (both (answer p.1.0 q.1.0) (both (answer p.1.1.0 q.1.1.0) (rows_one p.1.1.1 q.1.1.1)))

pub last_one : OneAnswer {A = ℕ × (List ℕ × Rows)} 7 last_kinds.ps last_kinds.r last_contract.Post
    (λ κs x s. (x, (s.1.1.1.1.1.1.1.0.now, (s.1.1.0.now, (s.1.1.1.0.now, (s.1.1.1.1.0.now, (s.1.1.1.1.1.0.now, s.1.1.1.1.1.1.0.now)))))))
last_one κs a x y s t p q = both (answer p.0 q.0) (both (answer p.1.0 q.1.0) (rows_one p.1.1 q.1.1))

-- ---- a line

pub cutting_in_one : OneAnswer {A = Cutting} 1 cutting_in_kinds.ps cutting_in_kinds.r cutting_in_contract.Post (λ κs x s. x)
cutting_in_one κs a x y s t p q = answer p q

pub text_in_one : OneAnswer {A = List ℕ} 1 text_in_kinds.ps text_in_kinds.r text_in_contract.Post (λ κs x s. x.now)
text_in_one κs a x y s t p q = answer p q

pub explain_line_one : OneAnswer {A = ℕ × (List ℕ × Rows)} 7 explain_line_kinds.ps explain_line_kinds.r explain_line_contract.Post
    (λ κs x s. (x, (s.1.1.1.1.1.1.0.now, (s.1.0.now, (s.1.1.0.now, (s.1.1.1.0.now, (s.1.1.1.1.0.now, s.1.1.1.1.1.0.now)))))))
explain_line_one κs a x y s t p q = both (answer p.0 q.0) (both (answer p.1.0 q.1.0) (rows_one p.1.1 q.1.1))

pub write_why_one : OneAnswer {A = ℕ × List ℕ} 4 write_why_kinds.ps write_why_kinds.r write_why_contract.Post (λ κs x s. (x, s.1.1.1.1.0.now))
write_why_one κs a x y s t p q = both (answer p.0 q.0) (answer p.1 q.1)
