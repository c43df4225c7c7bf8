-- The map and the ends say the same. Assumes nothing.
use Prim.Native.Nat.{ℕ, suc, ◌+◌, ◌*◌, ◌-◌, ◌≤◌, ◌<◌}
use native.Mathlib.Omega.{arith}
use native.Mathlib.Decide.{dec_lt}
use mathlib.Core.Path.{◌≡◌, refl, sym, ◌∙◌, ap, ap₂, subst}
use mathlib.Core.Bool.{Bool, true, false}
use mathlib.Core.List.{List, [], ◌∷◌}
use lib.ListN.{length, take}
use lib.Seq.{length-take-le, get_or-take}
use lib.Dec.{eqb}
use lib.Count.{ones}
use borrow.Author.Tests.{eq-eqb, ne_eqb}
use Rattle.newmm_rules.specs.Positions.{up_from, keep, those, how_many, member, Rises}
use Rattle.newmm_rules.proofs.Positions.{member_in, in_member, those_in, those_rise, up_in, up_rises}
use Rattle.break_map_rules.specs.Maps.{Cells, cells_for, bits_for, bit, map_of, bit_at, is_break, breaks, all_breaks, breaks_above}
use Rattle.break_map_rules.specs.Ends.{AllRight}
use Rattle.break_map_rules.specs.Answers.{first_of}
use Rattle.break_map_rules.proofs.Bits.{ones_are}
use Rattle.break_map_rules.proofs.Breaks.{differ, not_member, member_those, none_passes, those_next}
use Rattle.break_map_rules.proofs.Cells.{made_bit, cell_is, break_take, same_bits}
use Rattle.break_map_rules.proofs.Ends.{all_right}
use Rattle.break_map_rules.proofs.Maps.{map_long, map_fits, break_is, no_end_above, breaks_are, higher_zero}
use Rattle.theorems_break_map.specs.Same.{EndsFromMap, MapFromEnds, SetAt, OneMap, OnesAreBreaks, CountIsEnds, Steps, stop, step, StepsListEnds}

-- ---- both ways

pub ends_from_map : EndsFromMap
ends_from_map n ends right = breaks_are n ends right (n + 1) 0 (omega arith) (omega arith) (omega arith)

module _ (n : ℕ) (map : List ℕ) (clear : is_break map 0 ≡ false) where
  -- without position 0
  from_one : all_breaks n map ≡ breaks map n 1
  unfolding up_from those
  from_one = let e : n + 1 ≡ suc n = omega arith in ap (λ (k : ℕ). breaks map k 0) e ∙ ap (λ (b : Bool). keep b 0 (breaks map n 1)) clear

  breaks_right : AllRight n (all_breaks n map)
  breaks_right =
      all_right n (all_breaks n map)
      (subst (Rises 1) (sym from_one) (those_rise (is_break map) (up_rises n 1)))
      (λ x m. let z = up_in (n + 1) 0 x (those_in (is_break map) x (up_from (n + 1) 0) m).0 in omega (arith, z.1))

pub map_from_ends : MapFromEnds
unfolding map_of
map_from_ends n map fit room above clear = (
  breaks_right n map clear,
  sym (same_bits (λ (p : ℕ). member p (all_breaks n map)) (cells_for n) (take (cells_for n) map) fits size bits),
)
  where
    c : ℕ
    c = cells_for n

    size : length (take c map) ≡ c
    size = length-take-le c map room

    fits : Cells (take c map)
    fits i h = let e = size in let z = fit i (omega arith) in omega (arith, get_or-take c map i 0 (omega arith))

    bits : (p : ℕ) → p < bits_for n → is_break (take c map) p ≡ member p (all_breaks n map)
    bits p h = break_take c map p h ∙ go (dec_lt n p)
      where
        go : Dec (n < p) → is_break map p ≡ member p (all_breaks n map)
        go (yes l) =
            none_passes (is_break map) (bits_for n - (n + 1)) (n + 1) p above (omega arith) (omega arith)
            ∙ sym (not_member p (all_breaks n map) (λ m. let z = up_in (n + 1) 0 p (those_in (is_break map) p (up_from (n + 1) 0) m).0 in omega (arith, z.1)))
        go (no l) = sym (member_those (is_break map) (n + 1) 0 p (omega arith) (omega arith))

-- ---- 02's sentences decide the cells

pub one_map : OneMap
unfolding map_of
one_map n ends right = (so, λ map s. same_bits test (cells_for n) map s.cells s.size (bits map s))
  where
    test : ℕ → Bool
    test p = member p ends

    so : SetAt n ends (map_of n ends)
    so =
        record {
          size = map_long n ends;
          cells = map_fits n ends;
          set = λ p l m. made_bit test (cells_for n) p (omega arith) ∙ ap bit (in_member p ends m);
          only = λ p l e. member_in p ends (sym (break_is n ends p (omega arith)) ∙ eq-eqb (bit_at (map_of n ends) p) 1 e);
          higher = higher_zero n ends right;
        }

    bits : (map : List ℕ) → SetAt n ends map → (p : ℕ) → p < bits_for n → is_break map p ≡ member p ends
    bits map s p h = go (dec_lt n p) (member p ends) refl
      where
        go : Dec (n < p) → (b : Bool) → member p ends ≡ b → is_break map p ≡ member p ends
        go (yes l) b e = ap (λ (x : ℕ). eqb x 1) (s.higher p l) ∙ sym (no_end_above n ends right p l)
        go (no l) true e = eq-eqb (bit_at map p) 1 (s.set p (omega arith) (member_in p ends e)) ∙ sym e
        go (no l) false e = ne_eqb (bit_at map p) 1 (λ q. differ (sym (in_member p ends (s.only p (omega arith) q)) ∙ e)) ∙ sym e

-- ---- counting

pub ones_are_breaks : OnesAreBreaks
ones_are_breaks map fit i h = sym (ap ones (cell_is map fit i h) ∙ ones_are (is_break map) 64 (64 * i))

pub count_is_ends : CountIsEnds
unfolding how_many
count_is_ends n ends right = ap length (ends_from_map n ends right)

-- ---- stepping

-- from any position stepping lists the breaks above it
pub steps_above : (n : ℕ) (map : List ℕ) (qs : List ℕ) (p : ℕ) → p ≤ n → breaks_above n map p ≡ qs → Steps n map p qs
steps_above n map [] p l e = stop (ap first_of e)
steps_above n map (q ∷ qs) p l e =
    let z = those_next (is_break map) (n - p) (p + 1) q qs e in
    let i : p + 1 + (n - p) - suc q ≡ n - q = omega arith in
    let j : suc q ≡ q + 1 = omega arith in
    step (ap first_of e)
    (steps_above n map qs q (omega (arith, z.1)) (sym (z.2 ∙ ap₂ (λ (k r : ℕ). breaks map k r) i j)))

pub steps_list_ends : StepsListEnds
steps_list_ends n ends right =
    steps_above n (map_of n ends) ends 0 (omega arith) (breaks_are n ends right (n - 0) (0 + 1) (omega arith) (omega arith) (omega arith))
