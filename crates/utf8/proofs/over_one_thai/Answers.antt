use native.Mathlib.Omega.{arith}
use Rattle.utf8.proofs.Runs.{read_more}
use Rattle.utf8.proofs.over_one_thai.Goals as goal

pub returns : goal.returns
returns c = (read_more 3 c.requires (c.thai_at.ensures c.if-not-thai_at.false) (omega arith), omega arith)
