use mathlib.Core.List.{[], ◌∷◌}
use Rattle.sheet_texts.specs.Texts.{decimal}
use Rattle.why_texts.proofs.Adding.{added, added_more, both}
use Rattle.release_table.specs.Table.{figure_line}
use Rattle.release_table.proofs.keep_figure.Goals as goal

pub returns : goal.returns
unfolding figure_line
returns c =
    let both = both (added_more (added_more
    (added_more (added c.args.out.now c.args.used c.args.name.now c.keep-a.ensures.value
    c.keep-a.ensures.row_after) (32 ∷ []) c.keep-b.ensures.value c.keep-b.ensures.row_after)
    (decimal c.args.figure) c.keep_number-c.ensures.value c.keep_number-c.ensures.out_after) (10 ∷ [])
    c.keep.ensures.value c.keep.ensures.row_after) in record { value = both.0; out_after = both.1 }
