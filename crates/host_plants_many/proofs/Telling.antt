-- Telling on the cut of many texts of the plant that a host means. Assumes nothing.
use Rattle.std.specs.Prelude.{Result}
use Rattle.refusal.specs.declared.Refusal.{Refusal}
use Prim.Native.Nat.{ℕ}
use mathlib.Core.Path.{◌≡◌, subst}
use mathlib.Core.List.{List}
use Rattle.trie_plants.specs.declared.Plant.{Plant}
use Rattle.newmm_many_answers.specs.Calls.{ManyCall}
use Rattle.newmm_plants_many.specs.Calls.{PlantManyCuts, PlantManyReasons}
use Rattle.host_telling.specs.Told.{Told, tells}
use Rattle.host_telling.proofs.Answers.{telling}
use Rattle.host_plants_many.specs.Calls.{PlantManyTold, PlantManyReasonsTold}

module _ {p q : Plant} (which : p ≡ q) (c : ManyCall) (answers out scratch : List ℕ) {a : Result ℕ Refusal} {t : Told} (e : t ≡ tells a) where
  pub with_cuts : PlantManyCuts p c a answers out scratch → PlantManyTold q c t answers out scratch
  with_cuts h = subst (λ (x : Plant). PlantManyTold x c t answers out scratch) which (telling h.0 e, h.1)

  pub with_reasons : PlantManyReasons p c a answers out scratch → PlantManyReasonsTold q c t answers out scratch
  with_reasons h =
      subst (λ (x : Plant). PlantManyReasonsTold x c t answers out scratch) which (telling h.0 e, h.1)
