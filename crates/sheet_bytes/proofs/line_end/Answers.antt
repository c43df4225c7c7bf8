use Rattle.std.proofs.Common.{sym, ◌∙◌}
use Rattle.sheet_bytes.proofs.Scanning.{leading_is}
use Rattle.sheet_bytes.proofs.line_end.Goals as goal

pub returns : goal.returns
returns c = c.count_before.ensures ∙ sym (leading_is _ _)
