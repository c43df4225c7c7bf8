use native.Mathlib.Omega.{arith}
use Rattle.word_lines.proofs.Digits.{digit_low, digit_high, digit_over, digit_is}
use Rattle.word_lines.proofs.with_digit.Goals as goal

pub returns-then-b-lt48 : goal.returns-then-b-lt48
returns-then-b-lt48 c = digit_low c.args.n c.args.b c.if-b-lt48.true

pub returns-then-b-gt57 : goal.returns-then-b-gt57
returns-then-b-gt57 c = digit_high c.args.n c.args.b c.if-b-lt48.false c.if-b-gt57.true

pub returns-then-n-gt-MAX_CLASS : goal.returns-then-n-gt-MAX_CLASS
returns-then-n-gt-MAX_CLASS c = digit_over c.args.n c.args.b c.if-b-lt48.false c.if-b-gt57.false (omega (arith, c.if-n-gt-MAX_CLASS.true))

pub returns-then-more-gt-MAX_CLASS : goal.returns-then-more-gt-MAX_CLASS
returns-then-more-gt-MAX_CLASS c = digit_over c.args.n c.args.b c.if-b-lt48.false c.if-b-gt57.false c.if-more-gt-MAX_CLASS.true

pub returns : goal.returns
returns c = digit_is c.args.n c.args.b c.if-b-lt48.false c.if-b-gt57.false c.if-more-gt-MAX_CLASS.false
