-- Demand 3, and what the ends are, over runs of the proved function `newmm::cut` itself.
use Rattle.std.specs.Prelude.{ℕ, ◌≤◌, ◌≡◌, List, length, take}
use Rattle.std.proofs.Math.Option.{some}
use contract.Lifetimes.{Lfts}
use borrow.Fn.Kinds.{Dens, res_t, ended_of}
use denote.Triple.Clauses.{AtExit}
use Rattle.newmm.proofs.cut.Kinds as cut_kinds
use Rattle.newmm.proofs.cut.Reads as cut_contract
use Rattle.trie_pool.specs.Meaning.{Words, Terms, words_in, meaning}
use Rattle.newmm_rules.specs.declared.Mode.TheVariants.{Plain, Sheet}
use Rattle.newmm_answers.specs.Answers.{accepted_with, scratch_for}
use Rattle.newmm_answers.specs.Calls.{Call}
use Rattle.theorems_demands.specs.Demand3.{Reached}
use Rattle.theorems_demands.specs.FewestWords.{WroteStretches}
use Rattle.theorems_demands.specs.Ends.{Wrote}
use Rattle.theorems_demands.specs.Sheet.{WroteParts}

-- A run of `newmm::cut`: its arguments, what it answered, the lent rows when it returned, and what
-- the check has proved of it. The check makes `cut_kinds` from the function's signature and
-- `cut_contract` from its `ensures`.
pub record Run : Type 0 where
  pub lifetimes : Lfts 4
  pub arguments : Dens lifetimes cut_kinds.ps
  pub answer : (res_t cut_kinds.r lifetimes).Denot
  pub rows : AtExit (ended_of 4 cut_kinds.ps cut_kinds.r) lifetimes
  pub promise : cut_contract.Post lifetimes arguments answer rows

-- what it was given, by the places of its arguments
abbrev pub call_of : Run → Call
call_of r =
    record {
      text = r.arguments.0.now;
      pool = r.arguments.1.0.now;
      out = r.arguments.1.1.0.now;
      scratch = r.arguments.1.1.1.0.now;
      mode = r.arguments.1.1.1.1.0;
    }

-- the output when it returned
abbrev pub out_left : Run → List ℕ
out_left r = r.rows.1.1.0.now

-- Two runs with the same text and mode. If one answers with ends, and the other has 9n+128 cells of
-- scratch and room for those ends, then the other answers too, with the same number of ends, the
-- same edge count and the same ends.
abbrev pub SameAnswers : Run → Run → Type 0
SameAnswers a b =
    (call_of a).text ≡ (call_of b).text
    → (call_of a).mode ≡ (call_of b).mode
    → (n edges : ℕ)
    → a.answer ≡ accepted_with n edges
    → scratch_for (length (call_of b).text) ≤ length (call_of b).scratch
    → n ≤ length (call_of b).out
    → (b.answer ≡ accepted_with n edges) × (take n (out_left b) ≡ take n (out_left a))

-- any two pools that pass and hold the same words
abbrev pub Demand3AnyOfRuns : Type 0
Demand3AnyOfRuns =
    (a b : Run) (v w : Words)
    → meaning (call_of a).pool ≡ some v
    → meaning (call_of b).pool ≡ some w
    → ((x : List ℕ) → v x ≡ w x)
    → SameAnswers a b

-- two pools that were reached from fresh ones and hold the same words, with whatever classes
abbrev pub Demand3OfRuns : Type 0
Demand3OfRuns =
    (a b : Run) (v w : Terms)
    → Reached (call_of a).pool v
    → Reached (call_of b).pool w
    → ((x : List ℕ) → words_in v x ≡ words_in w x)
    → SameAnswers a b

-- What a run that answered with n ends wrote: they rise strictly to the text's length, and in plain
-- mode they are the ends of tokens.
abbrev pub EndsOfRuns : Type 0
EndsOfRuns = (r : Run) (n edges : ℕ) → r.answer ≡ accepted_with n edges → Wrote (call_of r) n (out_left r)

-- A run of the plain cut that answered: the ends that it wrote stretch by stretch, each with the
-- fewest words where at most 50 edges were recorded.
abbrev pub FewestOfRuns : Type 0
FewestOfRuns =
    (r : Run) (n edges : ℕ)
    → (call_of r).mode ≡ Plain
    → r.answer ≡ accepted_with n edges
    → WroteStretches (call_of r) n edges (out_left r)

-- A run in the profile "sheet" that answered: the ends that it wrote part by part.
abbrev pub SheetOfRuns : Type 0
SheetOfRuns =
    (r : Run) (n edges : ℕ)
    → (call_of r).mode ≡ Sheet
    → r.answer ≡ accepted_with n edges
    → WroteParts (call_of r) n (out_left r)
