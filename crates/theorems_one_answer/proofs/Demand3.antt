-- Demand 3 speaks of the proved contracts: what it says of a call is what the contract of the
-- function promises, so it holds of any two runs of the cut. Assumes nothing.
use Prim.Native.Nat.{ℕ}
use mathlib.Core.Path.{◌≡◌, sym, ◌∙◌, ap, subst}
use mathlib.Core.List.{List}
use lib.ListN.{take}
use contract.Lifetimes.{Lfts}
use borrow.Fn.Kinds.{Dens, res_t, ended_of}
use denote.Triple.Clauses.{AtExit}
use Rattle.trie_char.proofs.fresh.Kinds as fresh_kinds
use Rattle.trie_char.proofs.fresh.Reads as fresh_contract
use Rattle.trie_char.proofs.add.Kinds as add_kinds
use Rattle.trie_char.proofs.add.Reads as add_contract
use Rattle.trie_char.proofs.add_class.Kinds as add_class_kinds
use Rattle.trie_char.proofs.add_class.Reads as add_class_contract
use Rattle.trie_char.proofs.remove.Kinds as remove_kinds
use Rattle.trie_char.proofs.remove.Reads as remove_contract
use Rattle.newmm_answers.specs.Calls as call
use Rattle.theorems_demands.specs.Demand3.{Freshened, Added, Taken}
use Rattle.theorems_demands.specs.Demand3 as demand
use Rattle.theorems_demands.specs.Ends.{Wrote}
use Rattle.theorems_demands.specs.FewestWords.{WroteStretches}
use Rattle.theorems_demands.specs.Sheet.{WroteParts}
use Rattle.theorems_demands.proofs.Demand3.{demand_3_any, demand_3}
use Rattle.theorems_demands.proofs.Ends.{ends_wrote}
use Rattle.theorems_demands.proofs.FewestWords.{stretches_wrote}
use Rattle.theorems_demands.proofs.Sheet.{parts_wrote}
use Rattle.theorems_one_answer.specs.Runs.{Run, call_of, out_left, SameAnswers, Demand3AnyOfRuns, Demand3OfRuns, EndsOfRuns, FewestOfRuns, SheetOfRuns}

pub freshened : (κs : Lfts 1) (a : Dens κs fresh_kinds.ps) (x : (res_t fresh_kinds.r κs).Denot) (s : AtExit (ended_of 1 fresh_kinds.ps fresh_kinds.r) κs)
    → fresh_contract.Post κs a x s → Freshened x a.0.now s.0.now
freshened κs a x s p = p

pub added : (κs : Lfts 2) (a : Dens κs add_kinds.ps) (x : (res_t add_kinds.r κs).Denot) (s : AtExit (ended_of 2 add_kinds.ps add_kinds.r) κs)
    → add_contract.Post κs a x s → Added x a.1.0.now 0 a.0.now s.0.now
added κs a x s p = p

pub added_class : (κs : Lfts 2) (a : Dens κs add_class_kinds.ps) (x : (res_t add_class_kinds.r κs).Denot) (s : AtExit (ended_of 2 add_class_kinds.ps add_class_kinds.r) κs)
    → add_class_contract.Post κs a x s → Added x a.1.0.now a.1.1.0 a.0.now s.0.now
added_class κs a x s p = p

pub taken : (κs : Lfts 2) (a : Dens κs remove_kinds.ps) (x : (res_t remove_kinds.r κs).Denot) (s : AtExit (ended_of 2 remove_kinds.ps remove_kinds.r) κs)
    → remove_contract.Post κs a x s → Taken x a.1.0.now a.0.now s.0.now
taken κs a x s p = p

-- what the contract of the cut says of a run
pub answered : (r : Run) → (r.answer ≡ call.answer_of (call_of r)) × (out_left r ≡ call.out_of (call_of r))
answered r = (r.promise.0, r.promise.1.0)

-- two calls that are told the same are two runs that are told the same
pub runs : (a b : Run) → demand.SameAnswer (call_of a) (call_of b) → SameAnswers a b
runs a b d text mode n edges h scratch out =
    let p = answered a in
    let q = answered b in
    let e = d text mode n edges (sym p.0 ∙ h) scratch out in
    (q.0 ∙ e.0, ap (take n) q.1 ∙ e.1 ∙ sym (ap (take n) p.1))

pub demand_3_any_of_runs : Demand3AnyOfRuns
demand_3_any_of_runs a b v w pa pb same = runs a b (demand_3_any (call_of a) (call_of b) v w pa pb same)

pub demand_3_of_runs : Demand3OfRuns
demand_3_of_runs a b v w ra rb same = runs a b (demand_3 (call_of a) (call_of b) v w ra rb same)

pub ends_of_runs : EndsOfRuns
ends_of_runs r n edges h =
    let p = answered r in
    subst (Wrote (call_of r) n) (sym p.1) (ends_wrote (call_of r) n edges (sym p.0 ∙ h))

pub fewest_of_runs : FewestOfRuns
fewest_of_runs r n edges plain h =
    let p = answered r in
    subst (WroteStretches (call_of r) n edges) (sym p.1) (stretches_wrote (call_of r) n edges plain (sym p.0 ∙ h))

pub sheet_of_runs : SheetOfRuns
sheet_of_runs r n edges sheet h =
    let p = answered r in
    subst (WroteParts (call_of r) n) (sym p.1) (parts_wrote (call_of r) n edges sheet (sym p.0 ∙ h))
