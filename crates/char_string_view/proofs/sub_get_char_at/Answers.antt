use Rattle.std.proofs.Common.{List, ℕ, ap, ◌∙◌}
use Rattle.char_string.specs.Parts.{char_at}
use Rattle.char_string_view.specs.declared.CharView.{CharView}
use Rattle.char_string_view.specs.Views.{view_of, shown}
use Rattle.char_string_view.proofs.Shows.{sub_shows}
use Rattle.char_string_view.proofs.sub_get_char_at.Goals as goal

pub returns : goal.returns
returns c =
    let a = c.args in
    c.get_char_at.ensures ∙ ap (λ (v : CharView). char_at (shown v) a.index) c.sub_view_of.ensures
    ∙ ap (λ (l : List ℕ). char_at l a.index) (sub_shows (view_of a.text a.start a.end) a.from a.to)
