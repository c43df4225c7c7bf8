use Rattle.image_bytes.proofs.Laying.{Copied}
use Rattle.image_bytes.proofs.put_bytes.Given as goal

abbrev pub invariant-loop-i : goal.invariant-loop-i
invariant-loop-i l = Copied l.initial.row l.at l.part l.row l.i
