-- Demand 3 holds in plant calls, by the proof of the plain ones. Assumes nothing.
use native.Mathlib.Omega.{arith}
use mathlib.Core.Path.{refl}
use mathlib.Core.Option.{Option}
use lib.ListN.{length}
use Rattle.trie_pool.specs.Meaning.{Words, words_in, no_term}
use Rattle.trie_plants.specs.Meaning.{plant_meaning}
use Rattle.trie_plants.proofs.Parts.{means_of}
use Rattle.newmm_answers.specs.Answers.{cut_of}
use Rattle.newmm_reasons_answers.specs.Told.{told_of}
use Rattle.newmm_reasons_answers.specs.Answers.{pairs, pair_room}
use Rattle.theorems_demands.specs.Demand3.{SameAnswerFor}
use Rattle.theorems_demands.proofs.Demand3.{Cuts, same_answer_for, front_of}
use Rattle.theorems_demands.proofs.Reasons.{pairs_of}
use Rattle.theorems_plants.specs.Plants.{terms_left}
use Rattle.theorems_plants.specs.Cuts.{PlantCut, plant_cutting, plant_telling, AnyPools, ReachedPools, PlantDemand3Any, PlantDemand3, PlantDemand3AnyReasons, PlantDemand3Reasons}
use Rattle.theorems_plants.proofs.Reaching.{reached}

-- the words of the plant that calls
abbrev own_of : PlantCut → Option Words
own_of c = plant_meaning c.plant c.given.pool

the_cut : Cuts plant_cutting own_of
the_cut =
    record {
      room = λ c. length c.given.out;
      made = λ mode words text. (cut_of mode words text).ends;
      enough = λ c n h. h;
      answered = λ c. refl;
      wrote = λ c n h. front_of c.given.mode c.given.text (own_of c) n (length c.given.scratch) c.given.out h;
    }

the_reasons : Cuts plant_telling own_of
the_reasons =
    record {
      room = λ c. pair_room c.given.out;
      made = λ mode words text. pairs (told_of mode words text);
      enough = λ c n h. omega arith;
      answered = λ c. refl;
      wrote = λ c n h. pairs_of c.given.mode c.given.text (own_of c) n (length c.given.scratch) c.given.out h;
    }

-- the pools of runs are such
of_runs : (Same : PlantCut → PlantCut → Type 0) → AnyPools Same → ReachedPools Same
of_runs Same any a b limit_a limit_b limit_a' limit_b' one two r s same =
    any a b (words_in (terms_left a.plant one no_term)) (words_in (terms_left b.plant two no_term))
    (means_of a.plant a.given.pool (terms_left a.plant one no_term) ((reached limit_a limit_b one a.given.pool r).2 a.plant))
    (means_of b.plant b.given.pool (terms_left b.plant two no_term) ((reached limit_a' limit_b' two b.given.pool s).2 b.plant))
    same

pub plant_demand_3_any : PlantDemand3Any
plant_demand_3_any = same_answer_for plant_cutting own_of the_cut

pub plant_demand_3 : PlantDemand3
plant_demand_3 = of_runs (SameAnswerFor plant_cutting) plant_demand_3_any

pub plant_demand_3_any_reasons : PlantDemand3AnyReasons
plant_demand_3_any_reasons = same_answer_for plant_telling own_of the_reasons

pub plant_demand_3_reasons : PlantDemand3Reasons
plant_demand_3_reasons = of_runs (SameAnswerFor plant_telling) plant_demand_3_any_reasons
