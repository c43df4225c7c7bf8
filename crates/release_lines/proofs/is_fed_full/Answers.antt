use Rattle.release_lines.proofs.Counting.{by_number}
use Rattle.release_lines.proofs.is_fed_full.Goals as goal

pub returns-in-Err : goal.returns-in-Err
returns-in-Err c = by_number c.in-Err.is c.number.ensures
