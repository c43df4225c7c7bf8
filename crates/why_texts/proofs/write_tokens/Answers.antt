use native.Mathlib.Omega.{arith}
use mathlib.Core.Path.{refl}
use Prim.Native.Nat.{◌-◌}
use Rattle.why_texts.proofs.Adding.{added_length, all_added}
use Rattle.why_texts.proofs.Lines.{telling_none, telling_next, telling_all}
use Rattle.why_texts.proofs.write_tokens.Goals as goal

pub loop-i-init : goal.loop-i-init
loop-i-init c = telling_none _ _ _ _

pub overflow_add-i : goal.overflow_add-i
overflow_add-i c = let g = c.loop-i.invariant.inside in let b = c.well_formed in omega arith

pub loop-i-smaller : goal.loop-i-smaller
loop-i-smaller c = omega (arith, c.loop-i-test.true)

pub loop-i-preserved : goal.loop-i-preserved
loop-i-preserved c = telling_next c.loop-i.invariant c.loop-i-test.true c.wide-end.ensures refl c.cell-to.ensures c.keep_token-used.ensures.value c.keep_token-used.ensures.out_after

pub shape_of-out : goal.shape_of-out
shape_of-out c = added_length c.loop-i.invariant.added

pub returns : goal.returns
returns c = let both = all_added (telling_all c.loop-i.invariant c.loop-i-test.false) in record { value = both.0; out_after = both.1 }
