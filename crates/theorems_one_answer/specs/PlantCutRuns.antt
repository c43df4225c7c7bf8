-- Demand 3 in plant calls (02, ticket 11), over runs of the proved functions `newmm_plants::cut_in`
-- and `newmm_plants_reasons::cut_reasons_in` themselves.
use Rattle.std.specs.Prelude.{ℕ, ◌*◌, ◌≤◌, ◌≡◌, List, map, length, take, Result}
use Rattle.std.proofs.Math.Option.{some}
use Rattle.newmm_rules.specs.declared.Ends.{Ends}
use Rattle.refusal.specs.declared.Refusal.{Refusal}
use Rattle.trie_pool.specs.Meaning.{Words, words_in, no_term}
use Rattle.trie_plants.specs.declared.Plant.{Plant}
use Rattle.trie_plants.specs.Meaning.{plant_meaning}
use Rattle.newmm_answers.specs.Answers.{accepted_with, scratch_for}
use Rattle.newmm_answers.specs.Calls.{call}
use Rattle.theorems_plants.specs.Plants.{terms_left}
use Rattle.theorems_plants.specs.Cuts.{PlantCut}
use Rattle.theorems_one_answer.specs.PlantRuns.{CutRun, ReasonsRun, CallRun, step_of, PlantsRun}

-- what a run was given, by the places of its arguments, and the output that it left
abbrev pub cut_asked : CutRun → PlantCut
cut_asked r =
    let a = r.arguments in
    record {
      plant = a.1.1.0;
      given = call a.0.now a.1.0.now a.1.1.1.0.now a.1.1.1.1.0.now a.1.1.1.1.1.0;
    }

abbrev pub reasons_asked : ReasonsRun → PlantCut
reasons_asked r =
    let a = r.arguments in
    record {
      plant = a.1.1.0;
      given = call a.0.now a.1.0.now a.1.1.1.0.now a.1.1.1.1.0.now a.1.1.1.1.1.0;
    }

abbrev pub cut_left : CutRun → List ℕ
cut_left r = r.rows.1.1.1.0.now

abbrev pub pairs_left : ReasonsRun → List ℕ
pairs_left r = r.rows.1.1.1.0.now

-- Two runs with the same text and mode. If one answers, and the other has 9n+128 cells of scratch
-- and room for that answer, then the other answers too, with the same number, the same edge count
-- and the same cells.
abbrev pub SameCells :
    {Ran : Type 0} → (Ran → PlantCut) → (Ran → Result Ends Refusal) → (Ran → List ℕ) → (ℕ → ℕ) → Ran → Ran → Type 0
SameCells asked answer left cells a b =
    (asked a).given.text ≡ (asked b).given.text
    → (asked a).given.mode ≡ (asked b).given.mode
    → (n edges : ℕ)
    → answer a ≡ accepted_with n edges
    → scratch_for (length (asked b).given.text) ≤ length (asked b).given.scratch
    → cells n ≤ length (asked b).given.out
    → (answer b ≡ accepted_with n edges) × (take (cells n) (left b) ≡ take (cells n) (left a))

-- The cut: n ends take n cells. The cut with reasons: n records take 2n cells.
abbrev pub SameEnds : CutRun → CutRun → Type 0
SameEnds a b = SameCells cut_asked (λ r. r.answer) cut_left (λ n. n) a b

abbrev pub SamePairs : ReasonsRun → ReasonsRun → Type 0
SamePairs a b = SameCells reasons_asked (λ r. r.answer) pairs_left (λ n. 2 * n) a b

-- Any two plants' pools in which two plants hold the same words. A run is by a plant, with a pool.
abbrev pub AnyPoolsOf : {Ran : Type 0} → (Ran → Plant) → (Ran → List ℕ) → (Ran → Ran → Type 0) → Type 0
AnyPoolsOf {Ran} by pool Same =
    (a b : Ran) (v w : Words)
    → plant_meaning (by a) (pool a) ≡ some v
    → plant_meaning (by b) (pool b) ≡ some w
    → ((x : List ℕ) → v x ≡ w x)
    → Same a b

-- Two pools that runs left, in which the calls of two plants left the same words, with whatever
-- classes.
abbrev pub ReachedPoolsOf : {Ran : Type 0} → (Ran → Plant) → (Ran → List ℕ) → (Ran → Ran → Type 0) → Type 0
ReachedPoolsOf {Ran} by pool Same =
    (a b : Ran) (one two : List CallRun)
    → PlantsRun one (pool a)
    → PlantsRun two (pool b)
    → ((x : List ℕ)
    → words_in (terms_left (by a) (map step_of one) no_term) x
    ≡ words_in (terms_left (by b) (map step_of two) no_term) x)
    → Same a b

-- whose a run is, and its pool
abbrev pub cut_by : CutRun → Plant
cut_by r = (cut_asked r).plant

abbrev pub cut_pool : CutRun → List ℕ
cut_pool r = (cut_asked r).given.pool

abbrev pub reasons_by : ReasonsRun → Plant
reasons_by r = (reasons_asked r).plant

abbrev pub reasons_pool : ReasonsRun → List ℕ
reasons_pool r = (reasons_asked r).given.pool

-- DEMAND 3 of the plants' cut, and of their cut with reasons.
abbrev pub PlantDemand3AnyOfRuns : Type 0
PlantDemand3AnyOfRuns = AnyPoolsOf cut_by cut_pool SameEnds

abbrev pub PlantDemand3OfRuns : Type 0
PlantDemand3OfRuns = ReachedPoolsOf cut_by cut_pool SameEnds

abbrev pub PlantDemand3AnyReasonsOfRuns : Type 0
PlantDemand3AnyReasonsOfRuns = AnyPoolsOf reasons_by reasons_pool SamePairs

abbrev pub PlantDemand3ReasonsOfRuns : Type 0
PlantDemand3ReasonsOfRuns = ReachedPoolsOf reasons_by reasons_pool SamePairs
