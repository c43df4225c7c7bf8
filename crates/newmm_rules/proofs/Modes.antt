-- What every mode comes to. Assumes nothing.
use Prim.Native.Nat.{ℕ, suc, ◌+◌, ◌*◌, ◌-◌, ◌≤◌, ◌<◌}
use native.Mathlib.Omega.{arith}
use mathlib.Core.Path.{◌≡◌, refl, sym, ◌∙◌, ap, subst}
use mathlib.Core.Bool.{Bool, true, false, cond}
use mathlib.Core.List.{List, [], ◌∷◌, ◌++◌}
use lib.ListN.{length}
use lib.Dec.{ltb}
use Rattle.newmm_rules.specs.Cutting.{Cut}
use Rattle.newmm_rules.specs.declared.Mode.{Mode}
use Rattle.newmm_rules.specs.declared.Mode.TheVariants.{Plain, Safe, Sheet}
use Rattle.newmm_rules.specs.Parts.{Cutter, runs_of}
use Rattle.newmm_rules.specs.Modes.{joined, in_parts, unshifted, behind_space, segmented}
use Rattle.newmm_rules.specs.inner.Climbing.{Climbs}
use Rattle.newmm_rules.proofs.Samples.{Fits, Right}
use Rattle.newmm_rules.proofs.Parts.{made_up, parts_climb, glued}

pub unshifted_fits : Fits unshifted
unshifted_fits = record { some = λ i h. omega arith; inside = λ i h. omega arith }

pub behind_space_fits : Fits behind_space
behind_space_fits = record { some = λ i h. omega arith; inside = λ i h. omega arith }

-- ENDS RISE STRICTLY to n in every mode, none for an empty text, where those of the plain cut do.
module _ (plain : Cutter) (r : Right plain) (text : List ℕ) where
  parts_right : (space_cut : ℕ → ℕ) → Fits space_cut → Climbs 0 (in_parts space_cut plain text).ends (length text)
  unfolding in_parts
  parts_right space_cut f = go (ltb (length text) 140)
    where
      go : (b : Bool) → Climbs 0 (cond b (plain text) (joined plain (runs_of (length text) space_cut plain text))).ends (length text)
      go true = r text
      go false =
          let m = made_up space_cut plain f r (length text) text (omega arith) in
          let e : 0 + length (glued (runs_of (length text) space_cut plain text).parts) ≡ length text = omega (arith, ap length m.whole) in
          subst (λ (z : ℕ). Climbs 0 (joined plain (runs_of (length text) space_cut plain text)).ends z) e (parts_climb plain r (runs_of (length text) space_cut plain text).parts 0)

  pub modes_climb : (mode : Mode) → Climbs 0 (segmented mode plain text).ends (length text)
  modes_climb Plain = r text
  modes_climb Safe = parts_right unshifted unshifted_fits
  modes_climb Sheet = parts_right behind_space behind_space_fits

-- Plain cuts that agree on every text give equal answers in every mode.
pub same_cuts : (mode : Mode) (plain plain' : Cutter) → ((t : List ℕ) → plain t ≡ plain' t) → (text : List ℕ) → segmented mode plain text ≡ segmented mode plain' text
same_cuts mode plain plain' same text = λ i. segmented mode (λ (t : List ℕ). same t i) text
