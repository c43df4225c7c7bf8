-- How far two words go together. Assumes nothing.
use mathlib.Core.Path.{◌≡◌, refl, sym, ap, subst}
use mathlib.Core.Bool.{true, false, cond}
use lib.Dec.{eqb, ltb}
use Rattle.std.specs.List.{prefix_len, zip}
use mathlib.Core.List.{List, [], ◌∷◌}
use Prim.Native.Nat.{ℕ, suc, ◌+◌, ◌≤◌, ◌<◌}
use native.Mathlib.Omega.{arith}
use lib.ListN.{length, get_or}
use Rattle.image_rules.specs.Order.{below, common}
use Rattle.image_rules.proofs.Order.{Parts, parts}

-- the pairs that are alike, from the start on
pub alike : (v w : List ℕ) → prefix_len (λ (p : ℕ × ℕ). eqb p.0 p.1) (zip v w) ≡ common v w
unfolding common
alike [] w = refl
alike (x ∷ v) [] = refl
alike (x ∷ v) (y ∷ w) =
    let more : 1 + prefix_len (λ (p : ℕ × ℕ). eqb p.0 p.1) (zip v w) ≡ suc (common v w) = omega (arith, alike v w) in
    ap (λ (n : ℕ). cond (eqb x y) n 0) more

-- ---- which stands first

module _ (v w : List ℕ) (l : ℕ) (e : l ≡ common v w) where
  at_l : Parts v w l
  at_l = subst (Parts v w) (sym e) (parts v w)

  pub rises_end : length w ≤ l → false ≡ below v w
  rises_end h = sym (at_l.end (omega (arith, at_l.right)))

  pub rises_longer : l < length w → length v ≤ l → true ≡ below v w
  rises_longer h k = sym (at_l.longer h (omega (arith, at_l.left)))

  pub rises_less : l < length w → l < length v → ltb (get_or v l 0) (get_or w l 0) ≡ below v w
  rises_less h k = sym (at_l.less h k)
