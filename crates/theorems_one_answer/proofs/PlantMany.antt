-- Many texts in one call of a plant: many is single, and demand 3 for each text, over runs. Assumes
-- nothing.
use Prim.Native.Nat.{◌*◌}
use mathlib.Core.Path.{refl, subst}
use Rattle.trie_plants.specs.declared.Plant.{Plant}
use Rattle.trie_plants.specs.Meaning.{plant_meaning}
use Rattle.theorems_demands.proofs.ManyShapes.{ends_shape, pairs_shape}
use Rattle.theorems_plants.specs.ManyTexts.{plant_cuts_form, plant_reasons_form}
use Rattle.theorems_plants.proofs.ManyTexts.{plant_demand_3_many_any, plant_demand_3_many_any_reasons}
use Rattle.theorems_one_answer.specs.PlantRuns.{CutRun, ReasonsRun, CutManyRun, ReasonsManyRun}
use Rattle.theorems_one_answer.specs.PlantCutRuns.{cut_by, reasons_by}
use Rattle.theorems_one_answer.specs.PlantManyRuns.{cut_many_seen, reasons_many_seen, plant_cut_seen, plant_reasons_seen, cut_many_by, cut_many_pool, reasons_many_by, reasons_many_pool, SameEndsMany, SamePairsMany}
use Rattle.theorems_one_answer.specs.PlantManyRuns.{PlantManyIsSingleOfRuns, PlantManyIsSingleReasonsOfRuns, PlantDemand3ManyAnyOfRuns, PlantDemand3ManyOfRuns, PlantDemand3ManyAnyReasonsOfRuns, PlantDemand3ManyReasonsOfRuns}
use Rattle.theorems_one_answer.proofs.Many.{KeepsMany, KeepsOne, as_single, same_texts}
use Rattle.theorems_one_answer.proofs.PlantCuts.{of_runs}

-- ---- the cut

keeps : (r : CutManyRun) → KeepsMany (plant_cuts_form (cut_many_by r)) (cut_many_seen r)
keeps r = record { whole = r.promise.0; answers = r.promise.1.0; left = r.promise.1.1.0 }

kept : (r : CutRun) → KeepsOne (plant_cuts_form (cut_by r)) (plant_cut_seen r)
kept r = record { answered = r.promise.0; left = r.promise.1.0 }

pub plant_many_is_single_of_runs : PlantManyIsSingleOfRuns
plant_many_is_single_of_runs m s same =
    as_single ends_shape (plant_meaning (cut_many_by m)) (cut_many_seen m) (plant_cut_seen s) (keeps m)
    (subst (λ (p : Plant). KeepsOne (plant_cuts_form p) (plant_cut_seen s)) same (kept s))

pub plant_demand_3_many_any_of_runs : PlantDemand3ManyAnyOfRuns
plant_demand_3_many_any_of_runs a b v w pa pb same =
    same_texts (plant_cuts_form (cut_many_by a)) (plant_cuts_form (cut_many_by b)) (λ n. n) refl refl (cut_many_seen a) (cut_many_seen b) (keeps a) (keeps b)
    (plant_demand_3_many_any (cut_many_by a) (cut_many_by b) (cut_many_seen a).given (cut_many_seen b).given v w pa pb same)

pub plant_demand_3_many_of_runs : PlantDemand3ManyOfRuns
plant_demand_3_many_of_runs = of_runs cut_many_by cut_many_pool SameEndsMany plant_demand_3_many_any_of_runs

-- ---- the cut with reasons

keeps_reasons : (r : ReasonsManyRun) → KeepsMany (plant_reasons_form (reasons_many_by r)) (reasons_many_seen r)
keeps_reasons r = record { whole = r.promise.0; answers = r.promise.1.0; left = r.promise.1.1.0 }

kept_reasons : (r : ReasonsRun) → KeepsOne (plant_reasons_form (reasons_by r)) (plant_reasons_seen r)
kept_reasons r = record { answered = r.promise.0; left = r.promise.1.0 }

pub plant_many_is_single_reasons_of_runs : PlantManyIsSingleReasonsOfRuns
plant_many_is_single_reasons_of_runs m s same =
    as_single pairs_shape (plant_meaning (reasons_many_by m)) (reasons_many_seen m) (plant_reasons_seen s) (keeps_reasons m)
    (subst (λ (p : Plant). KeepsOne (plant_reasons_form p) (plant_reasons_seen s)) same (kept_reasons s))

pub plant_demand_3_many_any_reasons_of_runs : PlantDemand3ManyAnyReasonsOfRuns
plant_demand_3_many_any_reasons_of_runs a b v w pa pb same =
    same_texts (plant_reasons_form (reasons_many_by a)) (plant_reasons_form (reasons_many_by b)) (λ n. 2 * n) refl refl (reasons_many_seen a) (reasons_many_seen b) (keeps_reasons a) (keeps_reasons b)
    (plant_demand_3_many_any_reasons (reasons_many_by a) (reasons_many_by b) (reasons_many_seen a).given (reasons_many_seen b).given v w pa pb same)

pub plant_demand_3_many_reasons_of_runs : PlantDemand3ManyReasonsOfRuns
plant_demand_3_many_reasons_of_runs = of_runs reasons_many_by reasons_many_pool SamePairsMany plant_demand_3_many_any_reasons_of_runs
