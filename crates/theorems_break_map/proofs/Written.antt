-- A row that was written answers by the ends. Assumes nothing.
use Rattle.std.specs.Prelude.{Result, Ok}
use Rattle.refusal.specs.declared.Refusal.{Refusal}
use Prim.Native.Nat.{ℕ, ◌+◌, ◌-◌, ◌≤◌, ◌<◌}
use native.Mathlib.Omega.{arith}
use mathlib.Core.Path.{◌≡◌, ◌∙◌, ap}
use mathlib.Core.Bool.{Bool}
use mathlib.Core.List.{List, [], ◌++◌}
use lib.ListN.{length, drop, length-append}
use lib.Dec.{ltb}
use borrow.Author.Tests.{le-ltb, ltb-false}
use Rattle.refusal.specs.Answers.{answer, output}
use Rattle.refusal.proofs.Causes.{none_of}
use Rattle.refusal.proofs.Firsts.{accepted_if_none}
use Rattle.newmm_rules.specs.Positions.{up_from, those, how_many, member}
use Rattle.newmm_rules.proofs.Positions.{lower}
use Rattle.break_map_rules.specs.Maps.{cells_for, bits_for, map_of, is_break, breaks, breaks_up_to, breaks_above, bits_above}
use Rattle.break_map_rules.specs.Ends.{first_wrong, AllRight}
use Rattle.break_map_rules.specs.Answers.{map_causes, map_answer, map_after, read_causes, count_answer, first_of, unless_refused, next_answer}
use Rattle.break_map_rules.proofs.Breaks.{those_same, those_members, those_none}
use Rattle.break_map_rules.proofs.Cells.{break_front}
use Rattle.break_map_rules.proofs.Ends.{right_most, ends_rise, ends_within}
use Rattle.break_map_rules.proofs.Maps.{map_long, break_is, no_end_above}
use Rattle.theorems_break_map.specs.Same.{WrittenAnswers, WrittenCount}

module _ (n : ℕ) (ends old : List ℕ) {k : ℕ} (h : map_answer n ends (length old) ≡ Ok k) where
  abbrev test : ℕ → Bool
  test p = member p ends

  abbrev row : List ℕ
  row = map_after n ends old

  small : n ≤ 65535
  small = ltb-false 65535 n (none_of (map_causes n ends (length old)) (cells_for n) k h).0

  all_right : AllRight n ends
  all_right =
      let q = ltb-false (first_wrong n ends) (length ends) (none_of (map_causes n ends (length old)) (cells_for n) k h).1.1.0 in
      let m = right_most n ends in
      omega arith

  row_is : row ≡ map_of n ends ++ drop (length (map_of n ends)) old
  row_is = ap (λ (a : Result ℕ Refusal). output a (map_of n ends) old) h

  row_long : cells_for n ≤ length row
  row_long = omega (arith, ap length row_is, length-append (map_of n ends) (drop (length (map_of n ends)) old), map_long n ends)

  row_break : (p : ℕ) → p < bits_for n → is_break row p ≡ member p ends
  row_break p l =
      ap (λ (r : List ℕ). is_break r p) row_is ∙ break_front (map_of n ends) (drop (length (map_of n ends)) old) p (omega (arith, map_long n ends)) ∙ break_is n ends p l

  row_breaks : (d p : ℕ) → p + d ≤ bits_for n → breaks row d p ≡ those test (up_from d p)
  row_breaks d p l = those_same test (is_break row) d p (λ x a b. row_break x (omega arith))

  clear : bits_above n row ≡ []
  clear = row_breaks (bits_for n - (n + 1)) (n + 1) (omega arith) ∙ those_none test (bits_for n - (n + 1)) (n + 1) (λ x a b. no_end_above n ends all_right x (omega arith))

  module _ (p : ℕ) (l : p ≤ n) where
    read : (m : ℕ) → answer (read_causes n row p) m ≡ Ok m
    read m =
        accepted_if_none (read_causes n row p) m
        (le-ltb 65535 n small, (le-ltb (length row) (cells_for n) row_long, (le-ltb n p l, (ap (λ (xs : List ℕ). ltb 0 (length xs)) clear, tt))))

    pub counts : count_answer n row p ≡ Ok (how_many test (p + 1) 0)
    unfolding how_many
    counts = read (breaks_up_to row p) ∙ ap (λ (xs : List ℕ). Ok (length xs)) (row_breaks (p + 1) 0 (omega arith))

    pub finds : next_answer n row p ≡ Ok (first_of (those test (up_from (n - p) (p + 1))))
    finds =
        ap (λ (a : Result ℕ Refusal). unless_refused a (first_of (breaks_above n row p))) (read 0) ∙ ap (λ (bs : List ℕ). Ok (first_of bs)) (row_breaks (n - p) (p + 1) (omega arith))

  pub counts_all : how_many test (n + 1) 0 ≡ length ends
  unfolding how_many
  counts_all =
      ap length (those_members (n + 1) 0 ends (lower (omega arith) (ends_rise n ends all_right)) (λ x m. let z = ends_within n ends all_right x m in omega arith))

pub written_answers : WrittenAnswers
written_answers n ends old k h p l = (counts n ends old h p l, finds n ends old h p l)

pub written_count : WrittenCount
written_count n ends old k h = counts n ends old h n (omega arith) ∙ ap Ok (counts_all n ends old h)
