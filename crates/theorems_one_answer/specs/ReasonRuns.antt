-- The cut with reasons, over runs of the proved functions `newmm_reasons::cut_reasons` and
-- `newmm::cut` themselves.
use Rattle.std.specs.Prelude.{ℕ, ◌*◌, ◌≤◌, ◌≡◌, List, [], ◌∷◌, length, take}
use Rattle.std.proofs.Math.Option.{some}
use contract.Lifetimes.{Lfts}
use borrow.Fn.Kinds.{Dens, res_t, ended_of}
use denote.Triple.Clauses.{AtExit}
use Rattle.newmm_reasons.proofs.cut_reasons.Kinds as reasons_kinds
use Rattle.newmm_reasons.proofs.cut_reasons.Reads as reasons_contract
use Rattle.trie_pool.specs.Meaning.{Words, Terms, words_in, meaning}
use Rattle.newmm_answers.specs.Answers.{accepted_with, scratch_for}
use Rattle.newmm_answers.specs.Calls.{Call}
use Rattle.theorems_demands.specs.Demand3.{Reached}
use Rattle.theorems_demands.specs.Reasons.{WroteReasons}
use Rattle.theorems_one_answer.specs.Runs.{Run, call_of, out_left}

-- A run of `cut_reasons`, as `Run` is one of `cut`.
pub record ReasonsRun : Type 0 where
  pub lifetimes : Lfts 4
  pub arguments : Dens lifetimes reasons_kinds.ps
  pub answer : (res_t reasons_kinds.r lifetimes).Denot
  pub rows : AtExit (ended_of 4 reasons_kinds.ps reasons_kinds.r) lifetimes
  pub promise : reasons_contract.Post lifetimes arguments answer rows

-- what it was given, by the places of its arguments
abbrev pub asked_of : ReasonsRun → Call
asked_of r =
    record {
      text = r.arguments.0.now;
      pool = r.arguments.1.0.now;
      out = r.arguments.1.1.0.now;
      scratch = r.arguments.1.1.1.0.now;
      mode = r.arguments.1.1.1.1.0;
    }

-- the row of pairs when it returned
abbrev pub pairs_left : ReasonsRun → List ℕ
pairs_left r = r.rows.1.1.0.now

-- What a run that answered with n records wrote: the true reasons.
abbrev pub ReasonsOfRuns : Type 0
ReasonsOfRuns = (r : ReasonsRun) (n edges : ℕ) → r.answer ≡ accepted_with n edges → WroteReasons (asked_of r) n edges (pairs_left r)

-- the first cell of each pair
abbrev pub firsts : List ℕ → List ℕ
firsts [] = []
firsts (end ∷ []) = []
firsts (end ∷ reason ∷ rest) = end ∷ firsts rest

-- THE SAME TOKENS: a run of the cut and a run with reasons, on the same text, in the same mode and
-- by the same words. If both answer, then with the same number, the same edge count and the same
-- ends.
abbrev pub SameTokensOfRuns : Type 0
SameTokensOfRuns =
    (a : Run) (b : ReasonsRun) (v w : Words)
    → meaning (call_of a).pool ≡ some v
    → meaning (asked_of b).pool ≡ some w
    → ((x : List ℕ) → v x ≡ w x)
    → (call_of a).text ≡ (asked_of b).text
    → (call_of a).mode ≡ (asked_of b).mode
    → (n edges m edges' : ℕ)
    → a.answer ≡ accepted_with n edges
    → b.answer ≡ accepted_with m edges'
    → (m ≡ n) × (edges' ≡ edges) × (firsts (take (2 * m) (pairs_left b)) ≡ take n (out_left a))

-- DEMAND 3 FOR REASONS, of any two runs: for two pools that pass and hold the same words, and for
-- two that were reached from fresh ones.
abbrev pub SameReasons : ReasonsRun → ReasonsRun → Type 0
SameReasons a b =
    (asked_of a).text ≡ (asked_of b).text
    → (asked_of a).mode ≡ (asked_of b).mode
    → (n edges : ℕ)
    → a.answer ≡ accepted_with n edges
    → scratch_for (length (asked_of b).text) ≤ length (asked_of b).scratch
    → 2 * n ≤ length (asked_of b).out
    → (b.answer ≡ accepted_with n edges) × (take (2 * n) (pairs_left b) ≡ take (2 * n) (pairs_left a))

abbrev pub Demand3AnyReasonsOfRuns : Type 0
Demand3AnyReasonsOfRuns =
    (a b : ReasonsRun) (v w : Words)
    → meaning (asked_of a).pool ≡ some v
    → meaning (asked_of b).pool ≡ some w
    → ((x : List ℕ) → v x ≡ w x)
    → SameReasons a b

abbrev pub Demand3ReasonsOfRuns : Type 0
Demand3ReasonsOfRuns =
    (a b : ReasonsRun) (v w : Terms)
    → Reached (asked_of a).pool v
    → Reached (asked_of b).pool w
    → ((x : List ℕ) → words_in v x ≡ words_in w x)
    → SameReasons a b
