use Rattle.std.proofs.Common.{rules}
use Rattle.char_string_last_space.proofs.Spaces.{last_is}
use Rattle.char_string_last_space.proofs.rfind_space_char_index.Goals as goal

pub returns : goal.returns
returns c = last_is c.args.text.now c.rposition.result (search rules)
