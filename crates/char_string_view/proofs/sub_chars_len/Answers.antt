use Rattle.std.proofs.Common.{length, List, ℕ, ap, ◌∙◌}
use Rattle.char_string_view.specs.declared.CharView.{CharView}
use Rattle.char_string_view.specs.Views.{view_of, shown}
use Rattle.char_string_view.proofs.Shows.{sub_shows}
use Rattle.char_string_view.proofs.sub_chars_len.Goals as goal

pub returns : goal.returns
returns c =
    let a = c.args in
    c.chars_len.ensures ∙ ap (λ (v : CharView). length (shown v)) c.sub_view_of.ensures
    ∙ ap (λ (l : List ℕ). length l) (sub_shows (view_of a.text a.start a.end) a.from a.to)
