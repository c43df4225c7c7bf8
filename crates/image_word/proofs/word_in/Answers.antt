use mathlib.Core.Path.{sym, ◌∙◌}
use Rattle.image_word.proofs.word_in.Goals.{then-n-eq0-via-then-n-eq0, then-n-eq0-via-else-n-eq0+then-is_trimmed, then-n-eq0-via-else-n-eq0+else-is_trimmed+then-is_trimmed-2}
use Rattle.image_word.proofs.Words.{refused_no, empty_nothing, start_nothing, stop_nothing}
use Rattle.image_word.proofs.word_in.Goals as goal

pub returns-in_err-n : goal.returns-in_err-n
returns-in_err-n c =
    rw c.from_residual.ensures (refused_no c.args.bytes.now c.args.row.now c.args.positions.now c.told-row c.told-positions c.decode.ensures.value c.in_err-n.ensures.value)

pub returns-then-n-eq0 : goal.returns-then-n-eq0
returns-then-n-eq0 c =
    elim c.then-n-eq0.branch [
      | then-n-eq0-via-then-n-eq0 w ↦ empty_nothing c.args.bytes.now c.args.row.now c.args.positions.now c.told-row c.told-positions c.decode.ensures.value c.in_ok-n.ensures.value c.decode.ensures.out_after w.if-n-eq0.true
      | then-n-eq0-via-else-n-eq0+then-is_trimmed w ↦ start_nothing c.args.bytes.now c.args.row.now c.args.positions.now c.told-row c.told-positions c.decode.ensures.value c.in_ok-n.ensures.value c.decode.ensures.out_after w.if-n-eq0.false (sym w.is_trimmed.ensures ∙ w.if-is_trimmed.true)
      | then-n-eq0-via-else-n-eq0+else-is_trimmed+then-is_trimmed-2 w ↦ stop_nothing c.args.bytes.now c.args.row.now c.args.positions.now c.told-row c.told-positions c.decode.ensures.value c.in_ok-n.ensures.value c.decode.ensures.out_after w.if-n-eq0.false (sym w.is_trimmed-else-is_trimmed.ensures ∙ w.if-is_trimmed-2.true)
    ]
