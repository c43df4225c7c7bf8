use Rattle.utf8_sequences.proofs.Quick.{thai_bits}
use borrow.Author.Tests.{eqb-true}
use Rattle.utf8_sequences.proofs.thai_of_four.Goals as goal

pub returns : goal.returns
returns c = λ h. thai_bits c.args.s.now c.args.at _ c.four-bits.ensures c.requires (eqb-true _ _ h)
