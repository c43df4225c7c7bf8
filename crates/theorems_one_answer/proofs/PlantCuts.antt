-- Demand 3 in plant calls speaks of the proved contracts. Assumes nothing.
use Prim.Native.Nat.{ℕ, ◌*◌}
use mathlib.Core.Path.{sym, ◌∙◌, ap}
use mathlib.Core.List.{List, map}
use lib.ListN.{take}
use Rattle.trie_pool.specs.Meaning.{words_in, no_term}
use Rattle.trie_plants.specs.declared.Plant.{Plant}
use Rattle.trie_plants.proofs.Parts.{means_of}
use Rattle.theorems_demands.specs.Demand3.{SameAnswerFor}
use Rattle.theorems_plants.specs.Plants.{terms_left}
use Rattle.theorems_plants.specs.Cuts.{plant_cutting, plant_telling}
use Rattle.theorems_plants.proofs.Cuts.{plant_demand_3_any, plant_demand_3_any_reasons}
use Rattle.theorems_one_answer.specs.PlantRuns.{CutRun, ReasonsRun, step_of}
use Rattle.theorems_one_answer.specs.PlantCutRuns.{cut_asked, reasons_asked, cut_by, cut_pool, reasons_by, reasons_pool, SameEnds, SamePairs, AnyPoolsOf, ReachedPoolsOf, PlantDemand3AnyOfRuns, PlantDemand3OfRuns, PlantDemand3AnyReasonsOfRuns, PlantDemand3ReasonsOfRuns}
use Rattle.theorems_one_answer.proofs.Plants.{reached_of_runs}

-- two calls that are told the same are two runs that are told the same
cuts : (a b : CutRun) → SameAnswerFor plant_cutting (cut_asked a) (cut_asked b) → SameEnds a b
cuts a b d text mode n edges h scratch out =
    let p = a.promise in
    let q = b.promise in
    let e = d text mode n edges (sym p.0 ∙ h) scratch out in
    (q.0 ∙ e.0, ap (take n) q.1.0 ∙ e.1 ∙ sym (ap (take n) p.1.0))

tells : (a b : ReasonsRun) → SameAnswerFor plant_telling (reasons_asked a) (reasons_asked b) → SamePairs a b
tells a b d text mode n edges h scratch out =
    let p = a.promise in
    let q = b.promise in
    let e = d text mode n edges (sym p.0 ∙ h) scratch out in
    (q.0 ∙ e.0, ap (take (2 * n)) q.1.0 ∙ e.1 ∙ sym (ap (take (2 * n)) p.1.0))

-- the pools that runs left are such
pub of_runs : {Ran : Type 0} (by : Ran → Plant) (pool : Ran → List ℕ) (Same : Ran → Ran → Type 0) → AnyPoolsOf by pool Same → ReachedPoolsOf by pool Same
of_runs by pool Same any a b one two r s same =
    any a b (words_in (terms_left (by a) (map step_of one) no_term)) (words_in (terms_left (by b) (map step_of two) no_term))
    (means_of (by a) (pool a) (terms_left (by a) (map step_of one) no_term) ((reached_of_runs one (pool a) r).1 (by a)))
    (means_of (by b) (pool b) (terms_left (by b) (map step_of two) no_term) ((reached_of_runs two (pool b) s).1 (by b)))
    same

pub plant_demand_3_any_of_runs : PlantDemand3AnyOfRuns
plant_demand_3_any_of_runs a b v w pa pb same = cuts a b (plant_demand_3_any (cut_asked a) (cut_asked b) v w pa pb same)

pub plant_demand_3_of_runs : PlantDemand3OfRuns
plant_demand_3_of_runs = of_runs cut_by cut_pool SameEnds plant_demand_3_any_of_runs

pub plant_demand_3_any_reasons_of_runs : PlantDemand3AnyReasonsOfRuns
plant_demand_3_any_reasons_of_runs a b v w pa pb same = tells a b (plant_demand_3_any_reasons (reasons_asked a) (reasons_asked b) v w pa pb same)

pub plant_demand_3_reasons_of_runs : PlantDemand3ReasonsOfRuns
plant_demand_3_reasons_of_runs = of_runs reasons_by reasons_pool SamePairs plant_demand_3_any_reasons_of_runs
