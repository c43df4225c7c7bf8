use Rattle.char_string_scalars.proofs.Texts.{long, bad, right}
use Rattle.char_string_scalars.proofs.check_text.Goals as goal

pub returns-then-n-gt-MAX_SCALARS : goal.returns-then-n-gt-MAX_SCALARS
returns-then-n-gt-MAX_SCALARS c = long _ c.if-n-gt-MAX_SCALARS.true

pub returns-then-bad-n : goal.returns-then-bad-n
returns-then-bad-n c = bad _ _ c.if-n-gt-MAX_SCALARS.false c.first_non_scalar-bad.ensures c.if-bad-n.true

pub returns : goal.returns
returns c = right _ _ c.if-n-gt-MAX_SCALARS.false c.first_non_scalar-bad.ensures c.if-bad-n.false
