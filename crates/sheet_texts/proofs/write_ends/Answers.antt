use Prim.Native.Nat.{◌-◌}
use native.Mathlib.Omega.{arith}
use Rattle.sheet_texts.proofs.Holding.{same, both}
use Rattle.sheet_texts.proofs.Spacing.{spaced_none, spaced_one, spaced_next, spaced_all}
use Rattle.sheet_texts.proofs.write_ends.Goals as goal

pub returns-then-row-eq0 : goal.returns-then-row-eq0
returns-then-row-eq0 c = let both = both (spaced_none c.args.out.now c.args.row.now c.if-row-eq0.true) in record { value = both.0; out_after = both.1 }

pub loop-i-init : goal.loop-i-init
loop-i-init c = λ base v. v

pub loop-i-smaller : goal.loop-i-smaller
loop-i-smaller c = omega (arith, c.loop-i-test.true)

pub loop-i-preserved : goal.loop-i-preserved
loop-i-preserved c =
    λ base v. spaced_next (c.loop-i.invariant base v) c.loop-i-test.true c.keep-n.ensures.value
    c.keep-n.ensures.row_after c.wide-in-loop-i.ensures c.keep_number-used-in-loop-i.ensures.value c.keep_number-used-in-loop-i.ensures.out_after

pub shape_of-out : goal.shape_of-out
shape_of-out c =
    same (c.loop-i.invariant c.args.out.now
    (spaced_one c.args.out.now c.args.row.now c.if-row-eq0.false c.wide.ensures
    c.keep_number-used.ensures.value c.keep_number-used.ensures.out_after)).text

pub returns : goal.returns
returns c =
    let both = both (spaced_all (c.loop-i.invariant c.args.out.now
    (spaced_one c.args.out.now c.args.row.now c.if-row-eq0.false c.wide.ensures
    c.keep_number-used.ensures.value c.keep_number-used.ensures.out_after)) c.loop-i-test.false) in record { value = both.0; out_after = both.1 }
