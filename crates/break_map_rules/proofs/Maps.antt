-- The map of some ends. Assumes nothing.
use Prim.Native.Nat.{ℕ, ◌+◌, ◌≤◌, ◌<◌}
use native.Mathlib.Omega.{arith}
use native.Mathlib.Decide.{dec_lt}
use mathlib.Core.Path.{◌≡◌, ◌∙◌, ap}
use mathlib.Core.Bool.{Bool, false}
use mathlib.Core.List.{List}
use lib.ListN.{length}
use Rattle.newmm_rules.specs.Positions.{member}
use Rattle.newmm_rules.proofs.Positions.{lower}
use Rattle.break_map_rules.specs.Maps.{Cells, cells_for, bits_for, bit, map_of, bit_at, is_break, breaks}
use Rattle.break_map_rules.specs.Ends.{AllRight}
use Rattle.break_map_rules.proofs.Breaks.{not_member, those_same, those_members}
use Rattle.break_map_rules.proofs.Cells.{cells_long, cells_fit, made_bit, made_break, no_bit}
use Rattle.break_map_rules.proofs.Ends.{ends_rise, ends_within}

module _ (n : ℕ) (ends : List ℕ) where
  abbrev test : ℕ → Bool
  test p = member p ends

  pub map_long : length (map_of n ends) ≡ cells_for n
  unfolding map_of
  map_long = cells_long test (cells_for n) 0

  pub map_fits : Cells (map_of n ends)
  unfolding map_of
  map_fits = cells_fit test (cells_for n)

  -- a position is a break exactly if it is an end
  pub break_is : (p : ℕ) → p < bits_for n → is_break (map_of n ends) p ≡ member p ends
  unfolding map_of
  break_is p h = made_break test (cells_for n) p h

  module _ (right : AllRight n ends) where
    pub no_end_above : (p : ℕ) → n < p → member p ends ≡ false
    no_end_above p h = not_member p ends (λ m. let z = ends_within n ends right p m in omega arith)

    pub breaks_are : (k p : ℕ) → p ≤ 1 → n < p + k → p + k ≤ bits_for n → breaks (map_of n ends) k p ≡ ends
    breaks_are k p l h u =
        those_same test (is_break (map_of n ends)) k p (λ x a b. break_is x (omega arith))
        ∙ those_members k p ends (lower l (ends_rise n ends right)) (λ x m. let z = ends_within n ends right x m in omega arith)

    pub higher_zero : (p : ℕ) → n < p → bit_at (map_of n ends) p ≡ 0
    unfolding map_of
    higher_zero p h = go (dec_lt p (bits_for n))
      where
        go : Dec (p < bits_for n) → bit_at (map_of n ends) p ≡ 0
        go (yes l) = made_bit test (cells_for n) p l ∙ ap bit (no_end_above p h)
        go (no l) = no_bit (map_of n ends) p (let e = map_long in omega arith)
