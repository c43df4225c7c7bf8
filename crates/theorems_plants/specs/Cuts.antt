-- DEMAND 3 IN PLANT CALLS (02, ticket 11), where it reads "the words of that plant": the same text,
-- mode and words give the same ends and the same edge count, whichever plants hold them, in
-- whatever plants' pools, and whatever scratch held.
use Rattle.std.specs.Prelude.{ℕ, ◌*◌, ◌≡◌, List, Result}
use Rattle.std.proofs.Math.Option.{some}
use Rattle.newmm_rules.specs.declared.Ends.{Ends}
use Rattle.refusal.specs.declared.Refusal.{Refusal}
use Rattle.trie_pool.specs.Meaning.{Words, words_in, no_term}
use Rattle.trie_plants.specs.declared.Plant.{Plant}
use Rattle.trie_plants.specs.Meaning.{plant_meaning}
use Rattle.newmm_answers.specs.Calls.{Call}
use Rattle.theorems_demands.specs.Demand3.{Operation, SameAnswerFor}
use Rattle.newmm_plants.specs.Calls.{plant_answer_of, plant_out_of}
use Rattle.newmm_plants_reasons.specs.Calls.{plant_reasons_answer_of, plant_pairs_of}
use Rattle.theorems_plants.specs.Plants.{Step, Run, terms_left}

-- A cutting call of a plant, and what it is given.
pub record PlantCut : Type 0 where
  pub plant : Plant
  pub given : Call

-- such a call as demand 3 speaks of cutting calls
abbrev pub plant_operation : (PlantCut → Result Ends Refusal) → (PlantCut → List ℕ) → (ℕ → ℕ) → Operation
plant_operation answer after cells =
    record {
      Asked = PlantCut;
      Cell = ℕ;
      mode = λ c. c.given.mode;
      text = λ c. c.given.text;
      pool = λ c. c.given.pool;
      scratch = λ c. c.given.scratch;
      out = λ c. c.given.out;
      answer = answer;
      after = after;
      cells = cells;
    }

-- The cut: an answer of n ends takes n cells.
abbrev pub plant_cutting : Operation
plant_cutting =
    plant_operation (λ c. plant_answer_of c.plant c.given) (λ c. plant_out_of c.plant c.given) (λ n. n)

-- The cut with reasons: an answer of n records takes 2n cells.
abbrev pub plant_telling : Operation
plant_telling =
    plant_operation (λ c. plant_reasons_answer_of c.plant c.given)
    (λ c. plant_pairs_of c.plant c.given) (λ n. 2 * n)

-- Any two plants' pools in which two plants hold the same words, however they came about.
abbrev pub AnyPools : (PlantCut → PlantCut → Type 0) → Type 0
AnyPools Same =
    (a b : PlantCut) (v w : Words)
    → plant_meaning a.plant a.given.pool ≡ some v
    → plant_meaning b.plant b.given.pool ≡ some w
    → ((x : List ℕ) → v x ≡ w x)
    → Same a b

-- Two pools of runs, in which the calls of two plants left the same words, with whatever classes.
abbrev pub ReachedPools : (PlantCut → PlantCut → Type 0) → Type 0
ReachedPools Same =
    (a b : PlantCut) (limit_a limit_b limit_a' limit_b' : ℕ) (one two : List Step)
    → Run limit_a limit_b one a.given.pool
    → Run limit_a' limit_b' two b.given.pool
    → ((x : List ℕ) → words_in (terms_left a.plant one no_term) x ≡ words_in (terms_left b.plant two no_term) x)
    → Same a b

-- DEMAND 3 of the plants' cut, and of their cut with reasons.
abbrev pub PlantDemand3Any : Type 0
PlantDemand3Any = AnyPools (SameAnswerFor plant_cutting)

abbrev pub PlantDemand3 : Type 0
PlantDemand3 = ReachedPools (SameAnswerFor plant_cutting)

abbrev pub PlantDemand3AnyReasons : Type 0
PlantDemand3AnyReasons = AnyPools (SameAnswerFor plant_telling)

abbrev pub PlantDemand3Reasons : Type 0
PlantDemand3Reasons = ReachedPools (SameAnswerFor plant_telling)
