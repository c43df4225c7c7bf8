-- The map of a cut, over runs of the proved functions `newmm::cut`, `break_map::break_map`,
-- `break_map::breaks_up_to` and `break_map::next_break` themselves.
use Rattle.std.specs.Prelude.{ℕ, ◌+◌, ◌-◌, ◌≤◌, ◌≡◌, List, length, take, Ok}
use Rattle.newmm_answers.specs.Answers.{accepted_with}
use contract.Lifetimes.{Lfts}
use borrow.Fn.Kinds.{Dens, res_t, ended_of}
use denote.Triple.Clauses.{AtExit}
use Rattle.break_map.proofs.break_map.Kinds as map_kinds
use Rattle.break_map.proofs.break_map.Reads as map_contract
use Rattle.break_map.proofs.breaks_up_to.Kinds as count_kinds
use Rattle.break_map.proofs.breaks_up_to.Reads as count_contract
use Rattle.break_map.proofs.next_break.Kinds as next_kinds
use Rattle.break_map.proofs.next_break.Reads as next_contract
use Rattle.newmm_rules.specs.Positions.{up_from, those, how_many, member}
use Rattle.break_map_rules.specs.Maps.{cells_for}
use Rattle.break_map_rules.specs.Answers.{first_of}
use Rattle.theorems_one_answer.specs.Runs.{Run, call_of, out_left}

-- Runs of the three functions, as `Run` is one of `cut`.
pub record MapRun : Type 0 where
  pub lifetimes : Lfts 2
  pub arguments : Dens lifetimes map_kinds.ps
  pub answer : (res_t map_kinds.r lifetimes).Denot
  pub rows : AtExit (ended_of 2 map_kinds.ps map_kinds.r) lifetimes
  pub promise : map_contract.Post lifetimes arguments answer rows

pub record CountRun : Type 0 where
  pub lifetimes : Lfts 1
  pub arguments : Dens lifetimes count_kinds.ps
  pub answer : (res_t count_kinds.r lifetimes).Denot
  pub rows : AtExit (ended_of 1 count_kinds.ps count_kinds.r) lifetimes
  pub promise : count_contract.Post lifetimes arguments answer rows

pub record NextRun : Type 0 where
  pub lifetimes : Lfts 1
  pub arguments : Dens lifetimes next_kinds.ps
  pub answer : (res_t next_kinds.r lifetimes).Denot
  pub rows : AtExit (ended_of 1 next_kinds.ps next_kinds.r) lifetimes
  pub promise : next_contract.Post lifetimes arguments answer rows

-- the row that a run of `break_map` left
abbrev pub map_left : MapRun → List ℕ
map_left m = m.rows.1.1.0.now

-- what a run of either of the other two was given, by the places of its arguments
pub record Question : Type 0 where
  pub n : ℕ
  pub map : List ℕ
  pub position : ℕ

abbrev pub count_of : CountRun → Question
count_of q = record { n = q.arguments.0; map = q.arguments.1.0.now; position = q.arguments.1.1.0 }

abbrev pub next_of : NextRun → Question
next_of q = record { n = q.arguments.0; map = q.arguments.1.0.now; position = q.arguments.1.1.0 }

-- the text's length and the ends that a run of the cut wrote
abbrev pub text_long : Run → ℕ
text_long a = length (call_of a).text

abbrev pub ends_left : Run → ℕ → List ℕ
ends_left a k = take k (out_left a)

-- A run of `break_map` is given these, and enough cells.
pub record MapOfCut (a : Run) (k : ℕ) (m : MapRun) : Type 0 where
  pub length_is : m.arguments.0 ≡ text_long a
  pub ends_are : m.arguments.1.0.now ≡ ends_left a k
  pub room : cells_for (text_long a) ≤ length m.arguments.1.1.0.now

-- A question about the row that it left, at a position of the text.
pub record AboutMap (a : Run) (m : MapRun) (q : Question) : Type 0 where
  pub length_is : q.n ≡ text_long a
  pub map_is : q.map ≡ map_left m
  pub within : q.position ≤ text_long a

-- It is accepted, and the questions are answered by these ends: the number of those up to and
-- including the position, and the first above it.
abbrev pub MapsOfRuns : Type 0
MapsOfRuns =
    (a : Run) (k edges : ℕ) (m : MapRun)
    → a.answer ≡ accepted_with k edges
    → MapOfCut a k m
    → (m.answer ≡ Ok (cells_for (text_long a)))
    × ((q : CountRun)
    → AboutMap a m (count_of q)
    → q.answer ≡ Ok (how_many (λ (p : ℕ). member p (ends_left a k)) ((count_of q).position + 1) 0))
    × ((q : NextRun)
    → AboutMap a m (next_of q)
    → q.answer
    ≡ Ok (first_of
    (those (λ (p : ℕ). member p (ends_left a k)) (up_from (text_long a - (next_of q).position) ((next_of q).position + 1)))))
