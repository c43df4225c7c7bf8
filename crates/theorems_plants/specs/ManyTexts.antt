-- MANY TEXTS IN ONE CALL OF A PLANT: what holds of many texts in one call (theorems_demands,
-- ManyTexts) holds by a plant's words. Each text is answered as a single call of that plant would
-- answer it, and demand 3 holds for each text, whichever plants call.
use Rattle.std.specs.Prelude.{ℕ, ◌*◌, ◌≡◌, List}
use Rattle.std.proofs.Math.Option.{some}
use Rattle.trie_pool.specs.Meaning.{Words, words_in, no_term}
use Rattle.trie_plants.specs.declared.Plant.{Plant}
use Rattle.trie_plants.specs.Meaning.{plant_meaning}
use Rattle.newmm_many_answers.specs.Calls.{ManyCall}
use Rattle.newmm_plants.specs.Calls.{plant_answer_of, plant_out_of}
use Rattle.newmm_plants_reasons.specs.Calls.{plant_reasons_answer_of, plant_pairs_of}
use Rattle.newmm_plants_many.specs.Calls.{plant_cuts_one, plant_reasons_one}
use Rattle.theorems_demands.specs.ManyTexts.{Form, ManyIsSingleFor, ManyScratchFor, AnyTextsSame, EachByItselfFor, OrderOfTextsFor}
use Rattle.theorems_plants.specs.Plants.{Step, Run, terms_left}

-- The cut of many texts by a plant's words: an answer of n ends takes n cells.
abbrev pub plant_cuts_form : Plant → Form
plant_cuts_form plant =
    record {
      one = plant_cuts_one plant;
      answer = plant_answer_of plant;
      after = plant_out_of plant;
      means = plant_meaning plant;
      cells = λ n. n;
    }

-- The same with reasons: an answer of n records takes 2n cells.
abbrev pub plant_reasons_form : Plant → Form
plant_reasons_form plant =
    record {
      one = plant_reasons_one plant;
      answer = plant_reasons_answer_of plant;
      after = plant_pairs_of plant;
      means = plant_meaning plant;
      cells = λ n. 2 * n;
    }

-- MANY IS SINGLE: what is told of text i and written for it is what the plant's single call
-- promises.
abbrev pub PlantManyIsSingle : Type 0
PlantManyIsSingle = (plant : Plant) → ManyIsSingleFor (plant_cuts_form plant)

abbrev pub PlantManyIsSingleReasons : Type 0
PlantManyIsSingleReasons = (plant : Plant) → ManyIsSingleFor (plant_reasons_form plant)

-- Scratch is all zero if some text came past refusals 2 to 5, and else as it was.
abbrev pub PlantManyScratch : Type 0
PlantManyScratch = (plant : Plant) → ManyScratchFor (plant_cuts_form plant)

abbrev pub PlantManyScratchReasons : Type 0
PlantManyScratchReasons = (plant : Plant) → ManyScratchFor (plant_reasons_form plant)

-- ROOM FOR ALL, and THE ORDER OF TEXTS.
abbrev pub PlantEachByItself : Type 0
PlantEachByItself = (plant : Plant) → EachByItselfFor (plant_cuts_form plant)

abbrev pub PlantEachByItselfReasons : Type 0
PlantEachByItselfReasons = (plant : Plant) → EachByItselfFor (plant_reasons_form plant)

abbrev pub PlantOrderOfTexts : Type 0
PlantOrderOfTexts = (plant : Plant) → OrderOfTextsFor (plant_cuts_form plant)

abbrev pub PlantOrderOfTextsReasons : Type 0
PlantOrderOfTextsReasons = (plant : Plant) → OrderOfTextsFor (plant_reasons_form plant)

-- DEMAND 3 FOR EACH TEXT: text i of a call of plant p and text j of a call of plant q. Any two
-- plants' pools in which the two plants hold the same words, however they came about.
abbrev pub AnyPoolsMany : (Plant → Form) → Type 0
AnyPoolsMany f =
    (p q : Plant) (a b : ManyCall) (v w : Words)
    → plant_meaning p a.pool ≡ some v
    → plant_meaning q b.pool ≡ some w
    → ((x : List ℕ) → v x ≡ w x)
    → AnyTextsSame (f p) (f q) a b

-- Two pools of runs, in which the calls of the two plants left the same words, with whatever
-- classes.
abbrev pub ReachedPoolsMany : (Plant → Form) → Type 0
ReachedPoolsMany f =
    (p q : Plant) (a b : ManyCall) (limit_a limit_b limit_a' limit_b' : ℕ) (one two : List Step)
    → Run limit_a limit_b one a.pool
    → Run limit_a' limit_b' two b.pool
    → ((x : List ℕ) → words_in (terms_left p one no_term) x ≡ words_in (terms_left q two no_term) x)
    → AnyTextsSame (f p) (f q) a b

abbrev pub PlantDemand3ManyAny : Type 0
PlantDemand3ManyAny = AnyPoolsMany plant_cuts_form

abbrev pub PlantDemand3Many : Type 0
PlantDemand3Many = ReachedPoolsMany plant_cuts_form

abbrev pub PlantDemand3ManyAnyReasons : Type 0
PlantDemand3ManyAnyReasons = AnyPoolsMany plant_reasons_form

abbrev pub PlantDemand3ManyReasons : Type 0
PlantDemand3ManyReasons = ReachedPoolsMany plant_reasons_form
