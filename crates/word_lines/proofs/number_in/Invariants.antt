use Rattle.word_lines.proofs.Digits.{Digits}
use Rattle.word_lines.proofs.number_in.Given as goal

abbrev pub invariant-loop-b : goal.invariant-loop-b
invariant-loop-b l = Digits l.text l.n l.b-index
