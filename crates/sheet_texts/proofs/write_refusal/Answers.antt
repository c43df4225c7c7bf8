use mathlib.Core.List.{[], ◌∷◌}
use Rattle.sheet_texts.specs.Texts.{decimal}
use Rattle.sheet_texts.proofs.Holding.{holds_first, holds_more, both}
use Rattle.sheet_texts.proofs.Spacing.{refusal_text}
use Rattle.sheet_texts.proofs.write_refusal.Goals as goal

pub returns : goal.returns
returns c =
    let both = both (refusal_text c.args.r c.number.ensures c.detail.ensures
    (holds_more (holds_more
    (holds_more (holds_first c.args.out.now (33 ∷ 32 ∷ []) c.keep-a.ensures.value c.keep-a.ensures.row_after)
    (decimal c.number.result) c.keep_number-b.ensures.value c.keep_number-b.ensures.out_after) (32 ∷ [])
    c.keep-c.ensures.value c.keep-c.ensures.row_after) (decimal c.detail.result) c.keep_number.ensures.value
    c.keep_number.ensures.out_after)) in record { value = both.0; out_after = both.1 }
