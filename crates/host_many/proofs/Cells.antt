-- A text's four cells are the numbers that the single call tells a host. Assumes nothing.
use Rattle.std.specs.Prelude.{Ok, Result, Err}
use Rattle.newmm_rules.specs.declared.Ends.{Ends}
use Rattle.refusal.specs.declared.Refusal.{Refusal}
use Prim.Native.Nat.{ℕ}
use mathlib.Core.Path.{◌≡◌, refl}
use mathlib.Core.List.{List, [], ◌∷◌}
use Rattle.newmm_many_answers.specs.Turns.{cells_of}
use Rattle.host_telling.specs.Told.{tells_cut}

pub cells_told : (a : Result Ends Refusal) → cells_of a ≡ (tells_cut a).number ∷ (tells_cut a).count ∷ (tells_cut a).edges ∷ (tells_cut a).detail ∷ []
cells_told (Ok told) = refl
cells_told (Err r) = refl
