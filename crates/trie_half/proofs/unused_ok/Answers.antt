use native.Mathlib.Omega.{arith}
use Rattle.trie_half.proofs.Unused.{unused_none, unused_more, unused_done}
use Rattle.trie_half.proofs.unused_ok.Goals as goal

pub loop-i-init : goal.loop-i-init
loop-i-init c = unused_none c.args.p.now c.args.n

pub loop-i-preserved : goal.loop-i-preserved
loop-i-preserved c = unused_more c.args.p.now c.args.n c.loop-i.i _ _ _ _ c.loop-i.invariant

pub returns : goal.returns
returns c = unused_done c.loop-i.invariant (omega (arith, c.loop-i-test.false, c.requires.1))
