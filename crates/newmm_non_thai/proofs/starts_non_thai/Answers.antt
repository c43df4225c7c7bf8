use mathlib.Core.Path.{◌≡◌, sym, ◌∙◌}
use mathlib.Core.Bool.{◌||◌}
use Rattle.newmm_rules.specs.NonThai.{is_letter, is_digit, is_blank}
use Rattle.newmm_non_thai.proofs.Matches.{no_match, first_is, or_yes, or_no, high_starts, low_starts, line_starts}
use Rattle.newmm_non_thai.proofs.starts_non_thai.Goals.{then-contains, else-contains, then-contains-2, else-contains-2}
use Rattle.newmm_non_thai.proofs.starts_non_thai.Goals as goal

pub returns-in_default : goal.returns-in_default
returns-in_default c = no_match _ c.in_default.ensures.item.3

pub returns-then-x-gt122 : goal.returns-then-x-gt122
returns-then-x-gt122 c = high_starts _ _ (first_is _ _ c.in-Some.ensures.item.3) _ c.if-x-gt122.true c.contains.ensures

pub returns-then-contains-3 : goal.returns-then-contains-3
returns-then-contains-3 c =
    let x = c.in-Some.first.now in
    let v1 : c.if-contains.value ≡ (is_letter x || is_digit x) =
    elim c.if-contains.branch [
      | then-contains w ↦ or_yes _ (w.value-is ∙ c.contains-2.ensures) (sym c.contains-2.ensures ∙ w.if-contains.true)
      | else-contains w ↦ or_no (sym c.contains-2.ensures ∙ w.if-contains.false) (w.value-is ∙ w.contains-else-contains.ensures)
    ]
    in
    let v2 : c.if-contains-2.value ≡ ((is_letter x || is_digit x) || is_blank x) =
    elim c.if-contains-2.branch [
      | then-contains-2 w ↦ or_yes _ (w.value-is ∙ v1) (sym v1 ∙ w.if-contains-2.true)
      | else-contains-2 w ↦ or_no (sym v1 ∙ w.if-contains-2.false) (w.value-is ∙ w.contains-else-contains-2.ensures)
    ]
    in
    c.if-contains-3.true ∙ low_starts _ _ (first_is _ _ c.in-Some.ensures.item.3) c.if-x-gt122.false (sym v2 ∙ c.if-contains-3.true)

pub returns-else-contains-3 : goal.returns-else-contains-3
returns-else-contains-3 c =
    let x = c.in-Some.first.now in
    let v1 : c.if-contains.value ≡ (is_letter x || is_digit x) =
    elim c.if-contains.branch [
      | then-contains w ↦ or_yes _ (w.value-is ∙ c.contains-2.ensures) (sym c.contains-2.ensures ∙ w.if-contains.true)
      | else-contains w ↦ or_no (sym c.contains-2.ensures ∙ w.if-contains.false) (w.value-is ∙ w.contains-else-contains.ensures)
    ]
    in
    let v2 : c.if-contains-2.value ≡ ((is_letter x || is_digit x) || is_blank x) =
    elim c.if-contains-2.branch [
      | then-contains-2 w ↦ or_yes _ (w.value-is ∙ v1) (sym v1 ∙ w.if-contains-2.true)
      | else-contains-2 w ↦ or_no (sym v1 ∙ w.if-contains-2.false) (w.value-is ∙ w.contains-else-contains-2.ensures)
    ]
    in
    line_starts _ _ (first_is _ _ c.in-Some.ensures.item.3) _ c.if-x-gt122.false (sym v2 ∙ c.if-contains-3.false) c.line_end.ensures
