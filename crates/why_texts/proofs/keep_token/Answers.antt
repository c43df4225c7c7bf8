use mathlib.Core.List.{[], ◌∷◌}
use Rattle.sheet_texts.specs.Texts.{decimal}
use Rattle.why_texts.specs.Texts.{why}
use Rattle.why_texts.proofs.Adding.{added, added_more, added_same, both}
use Rattle.why_texts.proofs.Lines.{line_is}
use Rattle.why_texts.proofs.keep_token.Goals as goal

pub returns : goal.returns
returns c = let both = both (added_same (line_is c.args.text.now c.args.from c.args.to c.args.end c.args.reason c.between.ensures) (added_more (added_more (added_more (added_more (added_more (added c.args.out.now c.args.used _ c.keep-a.ensures.value c.keep-a.ensures.row_after) (9 ∷ []) c.keep-b.ensures.value c.keep-b.ensures.row_after) (decimal c.args.end) c.keep_number-c.ensures.value c.keep_number-c.ensures.out_after) (9 ∷ []) c.keep-d.ensures.value c.keep-d.ensures.row_after) (why c.args.end c.args.reason) c.keep_why-e.ensures.value c.keep_why-e.ensures.out_after) (10 ∷ []) c.keep.ensures.value c.keep.ensures.row_after)) in record { value = both.0; out_after = both.1 }
