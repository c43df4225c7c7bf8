use Rattle.break_map.proofs.Ends.{Right}
use Rattle.break_map.proofs.writing.first_wrong.Given as goal

abbrev pub invariant-loop-i : goal.invariant-loop-i
invariant-loop-i l = Right l.n l.ends l.before l.i
