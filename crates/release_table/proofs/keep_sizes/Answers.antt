use Rattle.figures_rules.specs.Figures.{figure}
use Rattle.why_texts.proofs.Adding.{added, added_more, both}
use Rattle.release_table.specs.Table.{texts_name, characters_name, tokens_name, figure_line, size_lines}
use Rattle.release_table.proofs.keep_sizes.Goals as goal

pub returns : goal.returns
unfolding size_lines
returns c = let both = both (added_more (added_more (added c.args.out.now c.args.used (figure_line texts_name (figure c.args.figures.now 0)) c.keep_figure-a.ensures.value c.keep_figure-a.ensures.out_after) (figure_line characters_name (figure c.args.figures.now 1)) c.keep_figure-b.ensures.value c.keep_figure-b.ensures.out_after) (figure_line tokens_name (figure c.args.figures.now 2)) c.keep_figure.ensures.value c.keep_figure.ensures.out_after) in record { value = both.0; out_after = both.1 }
