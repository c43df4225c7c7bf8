-- The second matcher: no second answer fits, and it answers and writes what the first does. Assumes
-- nothing.
use Rattle.std.specs.Prelude.{Result, Ok}
use Rattle.refusal.specs.declared.Refusal.{Refusal}
use Prim.Native.Nat.{ℕ, ◌≤◌, min}
use native.Mathlib.Omega.{arith}
use mathlib.Core.Path.{◌≡◌, refl, sym, ◌∙◌, ap}
use mathlib.Core.List.{List, ◌++◌}
use lib.ListN.{length, take, drop}
use lib.Seq.{take-append_seam}
use Rattle.refusal.specs.Answers.{output}
use Rattle.refusal.proofs.Firsts.{accepted_exactly_if_none}
use Rattle.tcc_rules.specs.Clusters.{cluster_ends}
use Rattle.tcc.specs.Answers.{cluster_causes, clusters_answer}
use Rattle.tcc_tables.proofs.tcc_winners.Kinds as winners_kinds
use Rattle.tcc_tables.proofs.tcc_winners.Reads as winners_contract
use Rattle.tcc_tables.specs.Answers.{winners_of, winners_causes, winners_answer}
use Rattle.theorems_one_answer.specs.OneAnswer.{OneAnswer}
use Rattle.theorems_one_answer.specs.WinnerRuns.{ClustersRun, WinnersRun, text_of, out_of, out_left, text_in, ends_in, winners_in, ends_left, SameClustersOfRuns, SameEndsOfRuns}
use Rattle.theorems_one_answer.proofs.Shapes.{answer_and_two_rows}

-- a row by the answer that is due
due : {r b : Result ℕ Refusal} (new old : List ℕ) {row : List ℕ} → r ≡ b → row ≡ output r new old → row ≡ output b new old
due new old e h = h ∙ ap (λ (z : Result ℕ Refusal). output z new old) e

-- the answer and the two rows
pub tcc_winners_one : OneAnswer {A = Result ℕ Refusal × List ℕ × List ℕ} 3 winners_kinds.ps winners_kinds.r winners_contract.Post
    (λ κs x s. let ends = s.1.0.now in let winners = s.1.1.0.now in (x, ends, winners))
tcc_winners_one κs a x y s t p q =
    answer_and_two_rows p.0 (due _ _ p.0 p.1.0) (due _ _ p.0 p.1.1) q.0 (due _ _ q.0 q.1.0) (due _ _ q.0 q.1.1)

pub same_clusters_of_runs : SameClustersOfRuns
same_clusters_of_runs a b text row room = (answers, a.promise.1 ∙ rows ∙ sym b.promise.1.0)
  where
    least : min (length (ends_in b)) (length (winners_in b)) ≡ length (ends_in b)
    least = omega arith

    answers : a.answer ≡ b.answer
    answers =
        a.promise.0 ∙ ap (λ (t : List ℕ). clusters_answer t (length (out_of a))) text
        ∙ ap (λ (l : List ℕ). clusters_answer (text_in b) (length l)) row
        ∙ ap (clusters_answer (text_in b)) (sym least)
        ∙ sym b.promise.0

    rows : output a.answer (cluster_ends (text_of a)) (out_of a) ≡ output b.answer (cluster_ends (text_in b)) (ends_in b)
    rows =
        ap (λ (r : Result ℕ Refusal). output r (cluster_ends (text_of a)) (out_of a)) answers
        ∙ ap (λ (t : List ℕ). output b.answer (cluster_ends t) (out_of a)) text
        ∙ ap (output b.answer (cluster_ends (text_in b))) row

-- a row that an accepted call wrote: its first cells
front : {r : Result ℕ Refusal} {n : ℕ} (new old : List ℕ) {row : List ℕ} → row ≡ output r new old → r ≡ Ok n → n ≡ length new → take n row ≡ new
front {r} {n} new old {row} is e long =
    ap (take n) (is ∙ ap (λ (z : Result ℕ Refusal). output z new old) e) ∙ ap (λ (k : ℕ). take k (new ++ drop (length new) old)) long ∙ take-append_seam new (drop (length new) old)

pub same_ends_of_runs : SameEndsOfRuns
same_ends_of_runs a b n m text e f =
    let p = ((accepted_exactly_if_none (cluster_causes (text_of a) (length (out_of a))) (length (cluster_ends (text_of a)))).1 n (sym a.promise.0 ∙ e)).1 in
    let q = ((accepted_exactly_if_none (winners_causes (text_in b) (length (ends_in b)) (length (winners_in b))) (length (cluster_ends (text_in b)))).1 m (sym b.promise.0 ∙ f)).1 in
    let ends : cluster_ends (text_of a) ≡ cluster_ends (text_in b) = ap cluster_ends text in
    let same : n ≡ m = p ∙ ap length ends ∙ sym q in (
      same,
      front (cluster_ends (text_of a)) (out_of a) a.promise.1 e p
          ∙ ends
          ∙ sym (ap (λ (k : ℕ). take k (ends_left b)) same ∙ front (cluster_ends (text_in b)) (ends_in b) b.promise.1.0 f q),
    )
