use Prim.Native.Nat.{◌-◌}
use native.Mathlib.Omega.{arith}
use Rattle.newmm_one_cut.proofs.Small.{seek_first, seek_found, seek_on, seek_end}
use Rattle.newmm_one_cut.proofs.next_candidate.Goals as goal

pub loop-c-init : goal.loop-c-init
loop-c-init c = seek_first _ _ _ c.requires.b_lt_m

pub returns-then-row-m-ne0 : goal.returns-then-row-m-ne0
returns-then-row-m-ne0 c = seek_found c.loop-c.invariant c.loop-c-test.true c.if-row-m-ne0.true

pub loop-c-preserved : goal.loop-c-preserved
loop-c-preserved c = seek_on c.loop-c.invariant c.loop-c-test.true c.if-row-m-ne0.false

pub returns : goal.returns
returns c = seek_end c.loop-c.invariant c.loop-c-test.false
