-- The two matchers of clusters, over runs of the proved functions `tcc::tcc_pos` and
-- `tcc_tables::tcc_winners` themselves.
use Rattle.std.specs.Prelude.{ℕ, ◌≤◌, ◌≡◌, List, length, take, Ok}
use contract.Lifetimes.{Lfts}
use borrow.Fn.Kinds.{Dens, res_t, ended_of}
use denote.Triple.Clauses.{AtExit}
use Rattle.tcc.proofs.tcc_pos.Kinds as tcc_pos_kinds
use Rattle.tcc.proofs.tcc_pos.Reads as tcc_pos_contract
use Rattle.tcc_tables.proofs.tcc_winners.Kinds as winners_kinds
use Rattle.tcc_tables.proofs.tcc_winners.Reads as winners_contract

-- A run of `tcc_pos`: its arguments, what it answered, the lent row when it returned, and what the
-- check has proved of it.
pub record ClustersRun : Type 0 where
  pub lifetimes : Lfts 2
  pub arguments : Dens lifetimes tcc_pos_kinds.ps
  pub answer : (res_t tcc_pos_kinds.r lifetimes).Denot
  pub rows : AtExit (ended_of 2 tcc_pos_kinds.ps tcc_pos_kinds.r) lifetimes
  pub promise : tcc_pos_contract.Post lifetimes arguments answer rows

-- A run of `tcc_winners`.
pub record WinnersRun : Type 0 where
  pub lifetimes : Lfts 3
  pub arguments : Dens lifetimes winners_kinds.ps
  pub answer : (res_t winners_kinds.r lifetimes).Denot
  pub rows : AtExit (ended_of 3 winners_kinds.ps winners_kinds.r) lifetimes
  pub promise : winners_contract.Post lifetimes arguments answer rows

-- what they were given, by the places of their arguments, and the row of ends when they returned
abbrev pub text_of : ClustersRun → List ℕ
text_of r = r.arguments.0.now

abbrev pub out_of : ClustersRun → List ℕ
out_of r = r.arguments.1.0.now

abbrev pub out_left : ClustersRun → List ℕ
out_left r = r.rows.1.0.now

abbrev pub text_in : WinnersRun → List ℕ
text_in r = r.arguments.0.now

abbrev pub ends_in : WinnersRun → List ℕ
ends_in r = r.arguments.1.0.now

abbrev pub winners_in : WinnersRun → List ℕ
winners_in r = r.arguments.1.1.0.now

abbrev pub ends_left : WinnersRun → List ℕ
ends_left r = r.rows.1.0.now

-- THE SAME CLUSTER ENDS ON EVERY TEXT. Lent the same row, and a second one that is no shorter, the
-- two answer the same and leave the same row, refused calls included.
abbrev pub SameClustersOfRuns : Type 0
SameClustersOfRuns =
    (a : ClustersRun) (b : WinnersRun)
    → text_of a ≡ text_in b
    → out_of a ≡ ends_in b
    → length (ends_in b) ≤ length (winners_in b)
    → (a.answer ≡ b.answer) × (out_left a ≡ ends_left b)

-- Lent any rows, where both accept they tell the same number and write the same ends.
abbrev pub SameEndsOfRuns : Type 0
SameEndsOfRuns =
    (a : ClustersRun) (b : WinnersRun) (n m : ℕ)
    → text_of a ≡ text_in b
    → a.answer ≡ Ok n
    → b.answer ≡ Ok m
    → (n ≡ m) × (take n (out_left a) ≡ take n (ends_left b))
