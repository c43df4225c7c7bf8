use native.Mathlib.Omega.{arith}
use mathlib.Core.Path.{refl}
use Rattle.utf8_sequences.proofs.Quick.{ascii_at}
use Rattle.utf8_sequences.proofs.quick_size.Goals as goal

pub returns-then-s-at-lt128 : goal.returns-then-s-at-lt128
returns-then-s-at-lt128 c = λ h. ascii_at c.args.s.now c.args.at _ refl c.requires c.if-s-at-lt128.true

pub thai_at-requires : goal.thai_at-requires
thai_at-requires c = omega (arith, c.if-s-at-lt3.false)

pub returns : goal.returns
returns c = λ h. c.thai_at.ensures c.if-not-thai_at.false
