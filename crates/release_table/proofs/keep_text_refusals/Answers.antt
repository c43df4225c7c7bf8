use Rattle.figures_rules.specs.Figures.{figure}
use Rattle.why_texts.proofs.Adding.{added, added_more, both}
use Rattle.release_table.specs.Table.{refused1_name, refused2_name, refused3_name, figure_line, text_refusal_lines}
use Rattle.release_table.proofs.keep_text_refusals.Goals as goal

pub returns : goal.returns
unfolding text_refusal_lines
returns c = let both = both (added_more (added_more (added c.args.out.now c.args.used (figure_line refused1_name (figure c.args.figures.now 10)) c.keep_figure-a.ensures.value c.keep_figure-a.ensures.out_after) (figure_line refused2_name (figure c.args.figures.now 11)) c.keep_figure-b.ensures.value c.keep_figure-b.ensures.out_after) (figure_line refused3_name (figure c.args.figures.now 12)) c.keep_figure.ensures.value c.keep_figure.ensures.out_after) in record { value = both.0; out_after = both.1 }
