use native.Mathlib.Omega.{arith}
use mathlib.Core.Path.{refl}
use Rattle.newmm_reasons.proofs.Pairs.{putting_none, row_long, pair_inside, next_inside, putting_more, putting_all}
use Rattle.newmm_reasons.proofs.put_pairs.Goals as goal

pub loop-i-init : goal.loop-i-init
loop-i-init c = putting_none _ _ c.requires

pub bounds-out-i : goal.bounds-out-i
bounds-out-i c = omega (arith, pair_inside c.loop-i.invariant c.loop-i-test.true)

pub bounds-out-i-in-loop-i : goal.bounds-out-i-in-loop-i
bounds-out-i-in-loop-i c = next_inside c.loop-i.invariant _ c.loop-i-test.true

pub loop-i-preserved : goal.loop-i-preserved
loop-i-preserved c = putting_more c.loop-i.invariant c.loop-i-test.true refl refl refl

pub returns : goal.returns
returns c = putting_all c.loop-i.invariant c.loop-i-test.false
