-- Many texts in one call of a plant, over runs of the proved functions
-- `newmm_plants_many::cut_many_in` and `cut_reasons_many_in` and of the single ones themselves:
-- many is single, and demand 3 for each text.
use Rattle.std.specs.Prelude.{ℕ, ◌*◌, ◌≡◌, List}
use Rattle.trie_plants.specs.declared.Plant.{Plant}
use Rattle.newmm_many_answers.specs.Calls.{many_call}
use Rattle.theorems_one_answer.specs.ManyRuns.{SeenMany, SeenOne, AsSingle, SameTextsSeen}
use Rattle.theorems_one_answer.specs.PlantRuns.{CutRun, ReasonsRun, CutManyRun, ReasonsManyRun}
use Rattle.theorems_one_answer.specs.PlantCutRuns.{cut_asked, reasons_asked, cut_left, pairs_left, cut_by, reasons_by, AnyPoolsOf, ReachedPoolsOf}

-- what is seen of a run, by the places of its arguments and of its rows
abbrev pub cut_many_seen : CutManyRun → SeenMany
cut_many_seen r =
    let a = r.arguments in
    record {
      given = many_call a.0.now a.1.0.now a.1.1.0.now a.1.1.1.1.0.now
          a.1.1.1.1.1.0.now a.1.1.1.1.1.1.0.now a.1.1.1.1.1.1.1.0;
      answer = r.answer;
      answers = r.rows.1.1.1.1.0.now;
      out = r.rows.1.1.1.1.1.0.now;
    }

abbrev pub reasons_many_seen : ReasonsManyRun → SeenMany
reasons_many_seen r =
    let a = r.arguments in
    record {
      given = many_call a.0.now a.1.0.now a.1.1.0.now a.1.1.1.1.0.now
          a.1.1.1.1.1.0.now a.1.1.1.1.1.1.0.now a.1.1.1.1.1.1.1.0;
      answer = r.answer;
      answers = r.rows.1.1.1.1.0.now;
      out = r.rows.1.1.1.1.1.0.now;
    }

abbrev pub plant_cut_seen : CutRun → SeenOne
plant_cut_seen r = record { given = (cut_asked r).given; answer = r.answer; out = cut_left r }

abbrev pub plant_reasons_seen : ReasonsRun → SeenOne
plant_reasons_seen r = record { given = (reasons_asked r).given; answer = r.answer; out = pairs_left r }

-- whose a run is, and its pool
abbrev pub cut_many_by : CutManyRun → Plant
cut_many_by r = r.arguments.1.1.1.0

abbrev pub cut_many_pool : CutManyRun → List ℕ
cut_many_pool r = (cut_many_seen r).given.pool

abbrev pub reasons_many_by : ReasonsManyRun → Plant
reasons_many_by r = r.arguments.1.1.1.0

abbrev pub reasons_many_pool : ReasonsManyRun → List ℕ
reasons_many_pool r = (reasons_many_seen r).given.pool

-- MANY IS SINGLE: a run with many texts, and a single run of the same plant.
abbrev pub PlantManyIsSingleOfRuns : Type 0
PlantManyIsSingleOfRuns =
    (m : CutManyRun) (s : CutRun) → cut_by s ≡ cut_many_by m → AsSingle (λ n. n) (cut_many_seen m) (plant_cut_seen s)

abbrev pub PlantManyIsSingleReasonsOfRuns : Type 0
PlantManyIsSingleReasonsOfRuns =
    (m : ReasonsManyRun) (s : ReasonsRun)
    → reasons_by s ≡ reasons_many_by m
    → AsSingle (λ n. 2 * n) (reasons_many_seen m) (plant_reasons_seen s)

-- DEMAND 3 FOR EACH TEXT: text i of a run of one plant, and text j of a run of any plant.
abbrev pub SameEndsMany : CutManyRun → CutManyRun → Type 0
SameEndsMany a b = SameTextsSeen (λ n. n) (cut_many_seen a) (cut_many_seen b)

abbrev pub SamePairsMany : ReasonsManyRun → ReasonsManyRun → Type 0
SamePairsMany a b = SameTextsSeen (λ n. 2 * n) (reasons_many_seen a) (reasons_many_seen b)

abbrev pub PlantDemand3ManyAnyOfRuns : Type 0
PlantDemand3ManyAnyOfRuns = AnyPoolsOf cut_many_by cut_many_pool SameEndsMany

abbrev pub PlantDemand3ManyOfRuns : Type 0
PlantDemand3ManyOfRuns = ReachedPoolsOf cut_many_by cut_many_pool SameEndsMany

abbrev pub PlantDemand3ManyAnyReasonsOfRuns : Type 0
PlantDemand3ManyAnyReasonsOfRuns = AnyPoolsOf reasons_many_by reasons_many_pool SamePairsMany

abbrev pub PlantDemand3ManyReasonsOfRuns : Type 0
PlantDemand3ManyReasonsOfRuns = ReachedPoolsOf reasons_many_by reasons_many_pool SamePairsMany
