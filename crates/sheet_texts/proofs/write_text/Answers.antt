use mathlib.Core.List.{[], ◌∷◌}
use Rattle.sheet_texts.specs.Texts.{decimal}
use Rattle.sheet_texts.proofs.Holding.{holds_first, both}
use Rattle.sheet_texts.proofs.Spacing.{text_by, ends_text}
use Rattle.sheet_texts.proofs.write_text.Goals as goal

pub returns-in-Unknown : goal.returns-in-Unknown
returns-in-Unknown c =
    let both = both (text_by c.args.ends.now c.in-Unknown.is
    (holds_first c.args.out.now (63 ∷ []) c.keep.ensures.value c.keep.ensures.row_after)) in record { value = both.0; out_after = both.1 }

pub returns-in-Report : goal.returns-in-Report
returns-in-Report c =
    let both = both (text_by c.args.ends.now c.in-Report.is
    (holds_first c.args.out.now (decimal c.in-Report.n) c.keep_number.ensures.value
    c.keep_number.ensures.out_after)) in record { value = both.0; out_after = both.1 }

pub returns-in-Ends : goal.returns-in-Ends
returns-in-Ends c =
    let both = both {row₀ = c.args.out.now}
    (text_by c.args.ends.now c.in-Ends.is
    (ends_text c.first.ensures c.write_ends.ensures.value c.write_ends.ensures.out_after)) in record { value = both.0; out_after = both.1 }

pub returns-in-Refused : goal.returns-in-Refused
returns-in-Refused c =
    let both = both {row₀ = c.args.out.now}
    (text_by c.args.ends.now c.in-Refused.is
    (record { size = c.write_refusal.ensures.value; is = c.write_refusal.ensures.out_after })) in record { value = both.0; out_after = both.1 }
