use Rattle.figures_rules.specs.Figures.{figure}
use Rattle.why_texts.proofs.Adding.{added, added_more, both}
use Rattle.release_table.specs.Table.{words_name, runs_name, figure_line, found_lines}
use Rattle.release_table.proofs.keep_found.Goals as goal

pub returns : goal.returns
unfolding found_lines
returns c = let both = both (added_more (added c.args.out.now c.args.used (figure_line words_name (figure c.args.figures.now 3)) c.keep_figure-a.ensures.value c.keep_figure-a.ensures.out_after) (figure_line runs_name (figure c.args.figures.now 4)) c.keep_figure.ensures.value c.keep_figure.ensures.out_after) in record { value = both.0; out_after = both.1 }
