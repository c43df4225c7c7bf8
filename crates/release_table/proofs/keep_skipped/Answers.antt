use Rattle.figures_rules.specs.Figures.{figure}
use Rattle.why_texts.proofs.Adding.{added, added_more, both}
use Rattle.release_table.specs.Table.{skipped_to_word_name, skipped_to_run_name, skipped_to_end_name, figure_line, skipped_lines}
use Rattle.release_table.proofs.keep_skipped.Goals as goal

pub returns : goal.returns
unfolding skipped_lines
returns c = let both = both (added_more (added_more (added c.args.out.now c.args.used (figure_line skipped_to_word_name (figure c.args.figures.now 5)) c.keep_figure-a.ensures.value c.keep_figure-a.ensures.out_after) (figure_line skipped_to_run_name (figure c.args.figures.now 6)) c.keep_figure-b.ensures.value c.keep_figure-b.ensures.out_after) (figure_line skipped_to_end_name (figure c.args.figures.now 7)) c.keep_figure.ensures.value c.keep_figure.ensures.out_after) in record { value = both.0; out_after = both.1 }
