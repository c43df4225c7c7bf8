use Rattle.std.proofs.Common.{ap, ◌∙◌}
use Rattle.char_string_view.specs.Views.{view_of, shown, shown_at}
use Rattle.char_string_view.proofs.Shows.{sub_shows, sub_shown_at}
use Rattle.char_string_view.proofs.sub_part.Goals as goal

pub returns-clause-result_value : goal.returns-clause-result_value
returns-clause-result_value c =
    let a = c.args in
    c.part.ensures.result_value ∙ ap shown c.sub_view_of.ensures ∙ sub_shows (view_of a.text a.start a.end) a.from a.to

pub returns-clause-ref_ptr_value : goal.returns-clause-ref_ptr_value
returns-clause-ref_ptr_value c =
    let a = c.args in
    c.part.ensures.ref_ptr_value ∙ ap shown_at c.sub_view_of.ensures ∙ sub_shown_at (view_of a.text a.start a.end) a.from a.to
