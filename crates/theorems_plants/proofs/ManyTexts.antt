-- Many texts in one call of a plant, by the proofs for any such call. Assumes nothing.
use Rattle.trie_pool.specs.Meaning.{words_in, no_term}
use Rattle.trie_plants.specs.declared.Plant.{Plant}
use Rattle.trie_plants.specs.Meaning.{plant_meaning}
use Rattle.trie_plants.proofs.Parts.{means_of}
use Rattle.theorems_demands.specs.ManyTexts.{Form, single_call}
use Rattle.theorems_demands.proofs.ManyShapes.{ends_shape, pairs_shape}
use Rattle.theorems_demands.proofs.ManyTexts.{is_single, scratch_left, any_texts_same}
use Rattle.theorems_demands.proofs.ManyAlone.{by_itself_for, in_order}
use Rattle.theorems_plants.specs.Plants.{terms_left}
use Rattle.theorems_plants.specs.ManyTexts.{plant_cuts_form, plant_reasons_form, PlantManyIsSingle, PlantManyIsSingleReasons, PlantManyScratch, PlantManyScratchReasons}
use Rattle.theorems_plants.specs.ManyTexts.{PlantEachByItself, PlantEachByItselfReasons, PlantOrderOfTexts, PlantOrderOfTextsReasons}
use Rattle.theorems_plants.specs.ManyTexts.{AnyPoolsMany, ReachedPoolsMany, PlantDemand3ManyAny, PlantDemand3Many, PlantDemand3ManyAnyReasons, PlantDemand3ManyReasons}
use Rattle.theorems_plants.proofs.Reaching.{reached}
use Rattle.theorems_plants.proofs.Cuts.{plant_demand_3_any, plant_demand_3_any_reasons}

pub plant_many_is_single : PlantManyIsSingle
plant_many_is_single plant = is_single ends_shape (plant_meaning plant)

pub plant_many_is_single_reasons : PlantManyIsSingleReasons
plant_many_is_single_reasons plant = is_single pairs_shape (plant_meaning plant)

pub plant_many_scratch : PlantManyScratch
plant_many_scratch plant = scratch_left ends_shape (plant_meaning plant)

pub plant_many_scratch_reasons : PlantManyScratchReasons
plant_many_scratch_reasons plant = scratch_left pairs_shape (plant_meaning plant)

pub plant_each_by_itself : PlantEachByItself
plant_each_by_itself plant = by_itself_for ends_shape (plant_meaning plant)

pub plant_each_by_itself_reasons : PlantEachByItselfReasons
plant_each_by_itself_reasons plant = by_itself_for pairs_shape (plant_meaning plant)

pub plant_order_of_texts : PlantOrderOfTexts
plant_order_of_texts plant = in_order (plant_cuts_form plant)

pub plant_order_of_texts_reasons : PlantOrderOfTextsReasons
plant_order_of_texts_reasons plant = in_order (plant_reasons_form plant)

-- ---- demand 3 for each text

pub plant_demand_3_many_any : PlantDemand3ManyAny
plant_demand_3_many_any p q a b v w pa pb same =
    any_texts_same (plant_cuts_form p) (plant_cuts_form q) (plant_many_is_single p) (plant_many_is_single q) a b
    (λ i j. plant_demand_3_any (record { plant = p; given = single_call (plant_cuts_form p) a i }) (record { plant = q; given = single_call (plant_cuts_form q) b j }) v w pa pb same)

pub plant_demand_3_many_any_reasons : PlantDemand3ManyAnyReasons
plant_demand_3_many_any_reasons p q a b v w pa pb same =
    any_texts_same (plant_reasons_form p) (plant_reasons_form q) (plant_many_is_single_reasons p) (plant_many_is_single_reasons q) a b
    (λ i j. plant_demand_3_any_reasons (record { plant = p; given = single_call (plant_reasons_form p) a i }) (record { plant = q; given = single_call (plant_reasons_form q) b j }) v w pa pb same)

-- the pools of runs are such
of_runs : (f : Plant → Form) → AnyPoolsMany f → ReachedPoolsMany f
of_runs f any p q a b limit_a limit_b limit_a' limit_b' one two r s same =
    any p q a b (words_in (terms_left p one no_term)) (words_in (terms_left q two no_term))
    (means_of p a.pool (terms_left p one no_term) ((reached limit_a limit_b one a.pool r).2 p))
    (means_of q b.pool (terms_left q two no_term) ((reached limit_a' limit_b' two b.pool s).2 q))
    same

pub plant_demand_3_many : PlantDemand3Many
plant_demand_3_many = of_runs plant_cuts_form plant_demand_3_many_any

pub plant_demand_3_many_reasons : PlantDemand3ManyReasons
plant_demand_3_many_reasons = of_runs plant_reasons_form plant_demand_3_many_any_reasons
