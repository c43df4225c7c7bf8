-- Decoding and ends in bytes. Assumes nothing.
use Rattle.std.specs.Prelude.{Result, Option}
use Rattle.refusal.specs.declared.Refusal.{Refusal}
use Prim.Native.Nat.{ℕ}
use mathlib.Core.Path.{◌≡◌, ◌∙◌, ap}
use mathlib.Core.List.{List}
use contract.Lifetimes.{Lfts}
use borrow.Fn.Kinds.{Dens, res_t, ended_of}
use denote.Triple.Clauses.{AtExit}
use Rattle.refusal.specs.Answers.{output}
use Rattle.utf8.specs.Positions.{positions_of}
use Rattle.utf8.proofs.decode.Kinds as decode_kinds
use Rattle.utf8.proofs.decode.Reads as decode_contract
use Rattle.utf8.proofs.end_in_bytes.Kinds as end_in_bytes_kinds
use Rattle.utf8.proofs.end_in_bytes.Reads as end_in_bytes_contract
use Rattle.theorems_demands.specs.InBytes.{Decoding, answered, positions_left}
use Rattle.theorems_one_answer.specs.OneAnswer.{OneAnswer}
use Rattle.theorems_one_answer.proofs.Shapes.{answer, both, answer_and_output}

-- the answer, the output, and the position row
pub decode_one : OneAnswer {A = (Result ℕ Refusal × List ℕ) × List ℕ} 3 decode_kinds.ps decode_kinds.r decode_contract.Post
    (λ κs x s. let out = s.1.0.now in let positions = s.1.1.0.now in ((x, out), positions))
decode_one κs a x y s t p q =
    both (answer_and_output _ _ p.0 p.1.0 q.0 q.1.0)
    (ap (λ (z : Result ℕ Refusal × List ℕ). z.1) (answer_and_output _ _ p.0 p.1.1 q.0 q.1.1))

pub end_in_bytes_one : OneAnswer {A = Option ℕ} 1 end_in_bytes_kinds.ps end_in_bytes_kinds.r end_in_bytes_contract.Post (λ κs x s. x)
end_in_bytes_one κs a x y s t p q = answer p q

-- A decoding of which demand 3 in bytes speaks is what the contract promises.
abbrev decoding_of : (κs : Lfts 3) → Dens κs decode_kinds.ps → Decoding
decoding_of κs a = record { bytes = a.0.now; scalars = a.1.0.now; positions = a.1.1.0.now }

pub decodes : (κs : Lfts 3) (a : Dens κs decode_kinds.ps) (x : (res_t decode_kinds.r κs).Denot) (s : AtExit (ended_of 3 decode_kinds.ps decode_kinds.r) κs)
    → decode_contract.Post κs a x s → (x ≡ answered (decoding_of κs a)) × (s.1.1.0.now ≡ positions_left (decoding_of κs a))
decodes κs a x s p = (p.0, p.1.1 ∙ ap (λ (r : Result ℕ Refusal). output r (positions_of a.0.now) a.1.1.0.now) p.0)
