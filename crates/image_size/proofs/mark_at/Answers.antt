use native.Mathlib.Omega.{arith}
use mathlib.Core.Path.{sym, ◌∙◌}
use Rattle.trie_pool.proofs.Shape.{mark_is}
use Rattle.image_size.proofs.Sizing.{mark_none}
use Rattle.image_size.proofs.mark_at.Goals as goal

pub returns-then-i-eq0 : goal.returns-then-i-eq0
returns-then-i-eq0 c = mark_none c.args.p.now c.args.i c.if-i-eq0.true

pub returns : goal.returns
returns c = sym (mark_is c.args.p.now c.args.i (omega (arith, c.if-i-eq0.false)))
