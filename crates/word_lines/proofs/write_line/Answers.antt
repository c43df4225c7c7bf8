use mathlib.Core.List.{[], ◌∷◌}
use Rattle.sheet_texts.specs.Texts.{decimal}
use Rattle.sheet_texts.proofs.Holding.{holds_first, holds_more, both, same_text}
use Rattle.word_lines.proofs.Lines.{line_plain, line_classed}
use Rattle.word_lines.proofs.write_line.Goals as goal

pub returns-then-class-eq0 : goal.returns-then-class-eq0
returns-then-class-eq0 c = let both = both (same_text (line_plain c.args.word.now c.args.class c.if-class-eq0.true) (holds_more (holds_first c.args.out.now c.args.word.now c.keep-a.ensures.value c.keep-a.ensures.row_after) (10 ∷ []) c.keep.ensures.value c.keep.ensures.row_after)) in record { value = both.0; out_after = both.1 }

pub returns : goal.returns
returns c = let both = both (same_text (line_classed c.args.word.now c.args.class c.if-class-eq0.false) (holds_more (holds_more (holds_more (holds_first c.args.out.now c.args.word.now c.keep-a.ensures.value c.keep-a.ensures.row_after) (9 ∷ []) c.keep-b.ensures.value c.keep-b.ensures.row_after) (decimal c.args.class) c.keep_number-c.ensures.value c.keep_number-c.ensures.out_after) (10 ∷ []) c.keep-2.ensures.value c.keep-2.ensures.row_after)) in record { value = both.0; out_after = both.1 }
