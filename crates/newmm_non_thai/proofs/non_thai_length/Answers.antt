use mathlib.Core.Path.{sym, ◌∙◌}
use Rattle.newmm_non_thai.proofs.Matches.{run_is_leading, no_text, first_is, by_letters, by_digits, by_blanks, by_line_end, high_digits, high_none}
use Rattle.newmm_non_thai.proofs.non_thai_length.Goals as goal

pub returns-in_default : goal.returns-in_default
returns-in_default c = no_text _ c.in_default.ensures.item.3

pub returns-then-contains : goal.returns-then-contains
returns-then-contains c = c.figures.ensures ∙ high_digits _ _ (first_is _ _ c.in-Some.ensures.item.3) c.if-x-gt122.true (sym c.contains.ensures ∙ c.if-contains.true)

pub returns-then-x-gt122 : goal.returns-then-x-gt122
returns-then-x-gt122 c = high_none _ _ (first_is _ _ c.in-Some.ensures.item.3) c.if-x-gt122.true (sym c.contains.ensures ∙ c.if-contains.false)

pub returns-then-contains-2 : goal.returns-then-contains-2
returns-then-contains-2 c = c.run_length.ensures ∙ run_is_leading _ _ ∙ by_letters _ _ (first_is _ _ c.in-Some.ensures.item.3) (sym c.contains-2.ensures ∙ c.if-contains-2.true)

pub returns-then-contains-3 : goal.returns-then-contains-3
returns-then-contains-3 c =
    c.figures-then-contains-3.ensures
    ∙ by_digits _ _ (first_is _ _ c.in-Some.ensures.item.3) (sym c.contains-2.ensures ∙ c.if-contains-2.false) (sym c.contains-3.ensures ∙ c.if-contains-3.true)

pub returns-then-contains-4 : goal.returns-then-contains-4
returns-then-contains-4 c =
    c.run_length-then-contains-4.ensures ∙ run_is_leading _ _
    ∙ by_blanks _ _ (first_is _ _ c.in-Some.ensures.item.3) (sym c.contains-2.ensures ∙ c.if-contains-2.false) (sym c.contains-3.ensures ∙ c.if-contains-3.false)
    c.if-x-gt122.false (sym c.contains-4.ensures ∙ c.if-contains-4.true)

pub returns : goal.returns
returns c =
    c.line_end.ensures
    ∙ by_line_end _ _ (first_is _ _ c.in-Some.ensures.item.3) (sym c.contains-2.ensures ∙ c.if-contains-2.false) (sym c.contains-3.ensures ∙ c.if-contains-3.false)
    c.if-x-gt122.false (sym c.contains-4.ensures ∙ c.if-contains-4.false)
