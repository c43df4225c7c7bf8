-- Telling on the cut of the plant that a host means. Assumes nothing.
use Rattle.std.specs.Prelude.{Result}
use Rattle.newmm_rules.specs.declared.Ends.{Ends}
use Rattle.refusal.specs.declared.Refusal.{Refusal}
use Prim.Native.Nat.{ℕ}
use mathlib.Core.Path.{◌≡◌, subst}
use mathlib.Core.List.{List}
use Rattle.trie_plants.specs.declared.Plant.{Plant}
use Rattle.newmm_answers.specs.Calls.{Call}
use Rattle.newmm_plants.specs.Calls.{PlantCuts}
use Rattle.newmm_plants_reasons.specs.Calls.{PlantReasons}
use Rattle.host_telling.specs.Told.{Told, tells_cut}
use Rattle.host_telling.proofs.Answers.{telling_cut}
use Rattle.host_plants_cuts.specs.Calls.{PlantCutTold, PlantReasonsTold}

module _ {p q : Plant} (which : p ≡ q) (c : Call) (out scratch : List ℕ) {a : Result Ends Refusal} {t : Told} (e : t ≡ tells_cut a) where
  pub with_cut : PlantCuts p c a out scratch → PlantCutTold q c t out scratch
  with_cut h = subst (λ (x : Plant). PlantCutTold x c t out scratch) which (telling_cut h.0 e, h.1)

  pub with_reasons : PlantReasons p c a out scratch → PlantReasonsTold q c t out scratch
  with_reasons h = subst (λ (x : Plant). PlantReasonsTold x c t out scratch) which (telling_cut h.0 e, h.1)
