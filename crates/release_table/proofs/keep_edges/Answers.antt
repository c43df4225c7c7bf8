use Rattle.figures_rules.specs.Figures.{figure}
use Rattle.why_texts.proofs.Adding.{added, added_more, both}
use Rattle.release_table.specs.Table.{edges_name, most_edges_name, figure_line, edge_lines}
use Rattle.release_table.proofs.keep_edges.Goals as goal

pub returns : goal.returns
unfolding edge_lines
returns c = let both = both (added_more (added c.args.out.now c.args.used (figure_line edges_name (figure c.args.figures.now 8)) c.keep_figure-a.ensures.value c.keep_figure-a.ensures.out_after) (figure_line most_edges_name (figure c.args.figures.now 9)) c.keep_figure.ensures.value c.keep_figure.ensures.out_after) in record { value = both.0; out_after = both.1 }
