-- Many is single, and demand 3 for each text, over runs of the proved functions
-- `newmm_many::cut_many` and `newmm::cut`, and with reasons of `newmm_many::cut_reasons_many` and
-- `newmm_reasons::cut_reasons` themselves.
use Rattle.std.specs.Prelude.{ℕ, ◌+◌, ◌*◌, ◌≤◌, ◌<◌, ◌≡◌, List, [], ◌∷◌, length, take, drop, Result, Ok}
use Rattle.std.proofs.Math.Option.{some}
use Rattle.newmm_rules.specs.declared.Ends.{Ends}
use Rattle.refusal.specs.declared.Refusal.{Refusal}
use contract.Lifetimes.{Lfts}
use borrow.Fn.Kinds.{Dens, res_t, ended_of}
use denote.Triple.Clauses.{AtExit}
use Rattle.newmm_many.proofs.cut_many.Kinds as many_kinds
use Rattle.newmm_many.proofs.cut_many.Reads as many_contract
use Rattle.newmm_many.proofs.cut_reasons_many.Kinds as reasons_many_kinds
use Rattle.newmm_many.proofs.cut_reasons_many.Reads as reasons_many_contract
use Rattle.trie_pool.specs.Meaning.{Words, Terms, words_in, meaning}
use Rattle.newmm_answers.specs.Answers.{scratch_for}
use Rattle.newmm_answers.specs.Calls.{Call}
use Rattle.newmm_many_answers.specs.Turns.{cells_of, ends_told}
use Rattle.newmm_many_answers.specs.Calls.{ManyCall}
use Rattle.theorems_demands.specs.Demand3.{Reached}
use Rattle.theorems_demands.specs.ManyTexts.{text_at, cells_at, counts_before}
use Rattle.theorems_one_answer.specs.Runs.{Run, call_of, out_left}
use Rattle.theorems_one_answer.specs.ReasonRuns.{ReasonsRun, asked_of, pairs_left}

-- A run of `newmm_many::cut_many`: its arguments, what it answered, the lent rows when it returned,
-- and what the check has proved of it.
pub record ManyRun : Type 0 where
  pub lifetimes : Lfts 6
  pub arguments : Dens lifetimes many_kinds.ps
  pub answer : (res_t many_kinds.r lifetimes).Denot
  pub rows : AtExit (ended_of 6 many_kinds.ps many_kinds.r) lifetimes
  pub promise : many_contract.Post lifetimes arguments answer rows

-- The same of `newmm_many::cut_reasons_many`.
pub record ManyReasonsRun : Type 0 where
  pub lifetimes : Lfts 6
  pub arguments : Dens lifetimes reasons_many_kinds.ps
  pub answer : (res_t reasons_many_kinds.r lifetimes).Denot
  pub rows : AtExit (ended_of 6 reasons_many_kinds.ps reasons_many_kinds.r) lifetimes
  pub promise : reasons_many_contract.Post lifetimes arguments answer rows

-- What is seen of a run with many texts: what it was given, what it answered, and the answers and
-- the output when it returned.
pub record SeenMany : Type 0 where
  pub given : ManyCall
  pub answer : Result ℕ Refusal
  pub answers : List ℕ
  pub out : List ℕ

-- and of a run with one text
pub record SeenOne : Type 0 where
  pub given : Call
  pub answer : Result Ends Refusal
  pub out : List ℕ

-- by the places of its arguments and of its rows
abbrev pub many_seen : ManyRun → SeenMany
many_seen r =
    record {
      given =
          record {
            row = r.arguments.0.now;
            ends = r.arguments.1.0.now;
            pool = r.arguments.1.1.0.now;
            answers = r.arguments.1.1.1.0.now;
            out = r.arguments.1.1.1.1.0.now;
            scratch = r.arguments.1.1.1.1.1.0.now;
            mode = r.arguments.1.1.1.1.1.1.0;
          };
      answer = r.answer;
      answers = r.rows.1.1.1.0.now;
      out = r.rows.1.1.1.1.0.now;
    }

abbrev pub many_reasons_seen : ManyReasonsRun → SeenMany
many_reasons_seen r =
    record {
      given =
          record {
            row = r.arguments.0.now;
            ends = r.arguments.1.0.now;
            pool = r.arguments.1.1.0.now;
            answers = r.arguments.1.1.1.0.now;
            out = r.arguments.1.1.1.1.0.now;
            scratch = r.arguments.1.1.1.1.1.0.now;
            mode = r.arguments.1.1.1.1.1.1.0;
          };
      answer = r.answer;
      answers = r.rows.1.1.1.0.now;
      out = r.rows.1.1.1.1.0.now;
    }

abbrev pub one_seen : Run → SeenOne
one_seen r = record { given = call_of r; answer = r.answer; out = out_left r }

abbrev pub one_reasons_seen : ReasonsRun → SeenOne
one_reasons_seen r = record { given = asked_of r; answer = r.answer; out = pairs_left r }

-- Where the cells of text i start: behind those that the answers before it count. A count of n asks
-- for so many cells.
abbrev pub start_in : (ℕ → ℕ) → SeenMany → ℕ → ℕ
start_in cells m i = cells (counts_before i m.answers)

-- MANY IS SINGLE: a run with many texts, and a run of the single call for text i with the same pool
-- and mode, as much scratch, and the output from there on. The four cells of text i are what the
-- single run answered, and its ends or pairs those that the single run wrote.
abbrev pub AsSingle : (ℕ → ℕ) → SeenMany → SeenOne → Type 0
AsSingle cells m s =
    (n i : ℕ)
    → m.answer ≡ Ok n
    → i < n
    → s.given.text ≡ text_at m.given i
    → s.given.pool ≡ m.given.pool
    → s.given.mode ≡ m.given.mode
    → length s.given.scratch ≡ length m.given.scratch
    → s.given.out ≡ drop (start_in cells m i) m.given.out
    → (cells_at i m.answers ≡ cells_of s.answer)
    × (take (cells (ends_told s.answer)) (drop (start_in cells m i) m.out) ≡ take (cells (ends_told s.answer)) s.out)

abbrev pub ManyIsSingleOfRuns : Type 0
ManyIsSingleOfRuns = (m : ManyRun) (s : Run) → AsSingle (λ n. n) (many_seen m) (one_seen s)

abbrev pub ManyIsSingleReasonsOfRuns : Type 0
ManyIsSingleReasonsOfRuns =
    (m : ManyReasonsRun) (s : ReasonsRun) → AsSingle (λ n. 2 * n) (many_reasons_seen m) (one_reasons_seen s)

-- DEMAND 3 FOR EACH TEXT, of any two runs: text i of the one and text j of the other.
abbrev pub SameTextsSeen : (ℕ → ℕ) → SeenMany → SeenMany → Type 0
SameTextsSeen cells a b =
    (n m i j : ℕ)
    → a.answer ≡ Ok n
    → b.answer ≡ Ok m
    → i < n
    → j < m
    → text_at a.given i ≡ text_at b.given j
    → a.given.mode ≡ b.given.mode
    → (k edges : ℕ)
    → cells_at i a.answers ≡ 0 ∷ k ∷ edges ∷ 0 ∷ []
    → scratch_for (length (text_at b.given j)) ≤ length b.given.scratch
    → start_in cells b j + cells k ≤ length b.given.out
    → (cells_at j b.answers ≡ 0 ∷ k ∷ edges ∷ 0 ∷ [])
    × (take (cells k) (drop (start_in cells b j) b.out) ≡ take (cells k) (drop (start_in cells a i) a.out))

-- any two pools that pass and hold the same words
abbrev pub AnyPoolsSeen : {Ran : Type 0} → (Ran → SeenMany) → (ℕ → ℕ) → Type 0
AnyPoolsSeen {Ran} seen cells =
    (a b : Ran) (v w : Words)
    → meaning (seen a).given.pool ≡ some v
    → meaning (seen b).given.pool ≡ some w
    → ((x : List ℕ) → v x ≡ w x)
    → SameTextsSeen cells (seen a) (seen b)

-- two pools that were reached from fresh ones and hold the same words, with whatever classes
abbrev pub ReachedPoolsSeen : {Ran : Type 0} → (Ran → SeenMany) → (ℕ → ℕ) → Type 0
ReachedPoolsSeen {Ran} seen cells =
    (a b : Ran) (v w : Terms)
    → Reached (seen a).given.pool v
    → Reached (seen b).given.pool w
    → ((x : List ℕ) → words_in v x ≡ words_in w x)
    → SameTextsSeen cells (seen a) (seen b)

abbrev pub Demand3ManyAnyOfRuns : Type 0
Demand3ManyAnyOfRuns = AnyPoolsSeen many_seen (λ n. n)

abbrev pub Demand3ManyOfRuns : Type 0
Demand3ManyOfRuns = ReachedPoolsSeen many_seen (λ n. n)

abbrev pub Demand3ManyAnyReasonsOfRuns : Type 0
Demand3ManyAnyReasonsOfRuns = AnyPoolsSeen many_reasons_seen (λ n. 2 * n)

abbrev pub Demand3ManyReasonsOfRuns : Type 0
Demand3ManyReasonsOfRuns = ReachedPoolsSeen many_reasons_seen (λ n. 2 * n)
