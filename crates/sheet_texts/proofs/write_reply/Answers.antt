use mathlib.Core.List.{[], ◌∷◌}
use Rattle.sheet_texts.specs.Texts.{text_of_reply}
use Rattle.sheet_texts.proofs.Holding.{holds_more, both}
use Rattle.sheet_texts.proofs.write_reply.Goals as goal

pub returns : goal.returns
returns c =
    let both = both {row₀ = c.args.out.now}
    (holds_more {text = text_of_reply c.args.reply c.args.ends.now}
    (record { size = c.write_text-n.ensures.value; is = c.write_text-n.ensures.out_after }) (10 ∷ []) c.keep.ensures.value
    c.keep.ensures.row_after) in record { value = both.0; out_after = both.1 }
