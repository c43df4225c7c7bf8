use Rattle.why_texts.proofs.Adding.{added, added_more, all_added}
use Rattle.release_table.specs.Table.{size_lines, found_lines, skipped_lines, edge_lines, text_refusal_lines, row_refusal_lines, table}
use Rattle.release_table.proofs.write_figures.Goals as goal

pub returns : goal.returns
unfolding table
returns c = let both = all_added (added_more (added_more (added_more (added_more (added_more (added c.args.out.now 0 (size_lines c.args.figures.now) c.keep_sizes-a.ensures.value c.keep_sizes-a.ensures.out_after) (found_lines c.args.figures.now) c.keep_found-b.ensures.value c.keep_found-b.ensures.out_after) (skipped_lines c.args.figures.now) c.keep_skipped-c.ensures.value c.keep_skipped-c.ensures.out_after) (edge_lines c.args.figures.now) c.keep_edges-d.ensures.value c.keep_edges-d.ensures.out_after) (text_refusal_lines c.args.figures.now) c.keep_text_refusals-e.ensures.value c.keep_text_refusals-e.ensures.out_after) (row_refusal_lines c.args.figures.now) c.keep_row_refusals.ensures.value c.keep_row_refusals.ensures.out_after) in record { value = both.0; out_after = both.1 }
