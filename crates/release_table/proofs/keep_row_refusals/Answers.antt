use Rattle.figures_rules.specs.Figures.{figure}
use Rattle.why_texts.proofs.Adding.{added, added_more, both}
use Rattle.release_table.specs.Table.{refused4_name, refused5_name, refused6_name, figure_line, row_refusal_lines}
use Rattle.release_table.proofs.keep_row_refusals.Goals as goal

pub returns : goal.returns
unfolding row_refusal_lines
returns c = let both = both (added_more (added_more (added c.args.out.now c.args.used (figure_line refused4_name (figure c.args.figures.now 13)) c.keep_figure-a.ensures.value c.keep_figure-a.ensures.out_after) (figure_line refused5_name (figure c.args.figures.now 14)) c.keep_figure-b.ensures.value c.keep_figure-b.ensures.out_after) (figure_line refused6_name (figure c.args.figures.now 15)) c.keep_figure.ensures.value c.keep_figure.ensures.out_after) in record { value = both.0; out_after = both.1 }
