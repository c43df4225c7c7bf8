use mathlib.Core.Path.{ap}
use lib.ListN.{length}
use Rattle.char_string.proofs.chars_len.Goals as goal

pub returns : goal.returns
returns c = ap length c.substring-shown.ensures.result_value
