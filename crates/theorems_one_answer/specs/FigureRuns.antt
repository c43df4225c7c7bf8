-- Release figures, over runs of the proved functions `figures::feed` and `figures::feed_refused`
-- themselves.
use Rattle.std.specs.Prelude.{ℕ, ◌≤◌, ◌≡◌, List, [], ◌∷◌, length}
use contract.Lifetimes.{Lfts}
use borrow.Fn.Kinds.{Dens, res_t, ended_of}
use denote.Triple.Clauses.{AtExit}
use Rattle.figures.proofs.feed.Kinds as feed_kinds
use Rattle.figures.proofs.feed.Reads as feed_contract
use Rattle.figures.proofs.feed_refused.Kinds as refused_kinds
use Rattle.figures.proofs.feed_refused.Reads as refused_contract
use Rattle.figures_rules.specs.Figures.{zeros, max_texts}
use Rattle.figures_rules.specs.Runs.{run, total}
use Rattle.newmm_answers.specs.Calls.{Call}
use Rattle.theorems_demands.specs.Figures.{Text, called, refused_before, outcomes}

-- A run of `feed`, and one of `feed_refused`, as `Run` is one of `cut`.
pub record FeedRun : Type 0 where
  pub lifetimes : Lfts 5
  pub arguments : Dens lifetimes feed_kinds.ps
  pub answer : (res_t feed_kinds.r lifetimes).Denot
  pub rows : AtExit (ended_of 5 feed_kinds.ps feed_kinds.r) lifetimes
  pub promise : feed_contract.Post lifetimes arguments answer rows

pub record RefusedRun : Type 0 where
  pub lifetimes : Lfts 1
  pub arguments : Dens lifetimes refused_kinds.ps
  pub answer : (res_t refused_kinds.r lifetimes).Denot
  pub rows : AtExit (ended_of 1 refused_kinds.ps refused_kinds.r) lifetimes
  pub promise : refused_contract.Post lifetimes arguments answer rows

-- what they were given, by the places of their arguments, and the figures when they returned
abbrev pub fed_call : FeedRun → Call
fed_call r =
    record {
      text = r.arguments.1.0.now;
      pool = r.arguments.1.1.0.now;
      out = r.arguments.1.1.1.0.now;
      scratch = r.arguments.1.1.1.1.0.now;
      mode = r.arguments.1.1.1.1.1.0;
    }

abbrev pub figures_given : FeedRun → List ℕ
figures_given r = r.arguments.0.now

abbrev pub figures_left : FeedRun → List ℕ
figures_left r = r.rows.0.now

abbrev pub refused_number : RefusedRun → ℕ
refused_number r = r.arguments.1.0

abbrev pub figures_before : RefusedRun → List ℕ
figures_before r = r.arguments.0.now

abbrev pub figures_behind : RefusedRun → List ℕ
figures_behind r = r.rows.0.now

-- Texts that were fed one after the other, each to the figures that the run before it left.
pub data Chain : List ℕ → List Text → List ℕ → Type 0 where
  none : {a : List ℕ} → Chain a [] a
  text : {a z : List ℕ} {ts : List Text} (r : FeedRun)
      → figures_given r ≡ a
      → Chain (figures_left r) ts z
      → Chain a (called (fed_call r) ∷ ts) z
  refused : {a z : List ℕ} {ts : List Text} (r : RefusedRun) (least : 1 ≤ refused_number r) (most : refused_number r ≤ 6)
      → figures_before r ≡ a
      → Chain (figures_behind r) ts z
      → Chain a (refused_before (refused_number r) least most ∷ ts) z

-- From zeros they leave the figures of the run: up to 4,294,967,295 texts the sums, and the
-- largest.
abbrev pub ChainsAreRuns : Type 0
ChainsAreRuns = (ts : List Text) (z : List ℕ) → Chain zeros ts z → z ≡ run (outcomes ts)

abbrev pub ChainsGiveSums : Type 0
ChainsGiveSums = (ts : List Text) (z : List ℕ) → Chain zeros ts z → length ts ≤ max_texts → z ≡ total (outcomes ts)
