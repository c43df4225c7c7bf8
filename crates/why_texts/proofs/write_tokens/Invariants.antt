use Prim.Native.Nat.{◌-◌}
use lib.ListN.{length}
use Rattle.why_texts.proofs.Lines.{Telling}
use Rattle.why_texts.proofs.write_tokens.Given as goal

abbrev pub invariant-loop-i : goal.invariant-loop-i
invariant-loop-i l = Telling l.initial.out l.text l.positions l.pairs l.out l.used l.from l.i

abbrev pub decreases-loop-i : goal.decreases-loop-i
decreases-loop-i l = length l.pairs - l.i
