use native.Mathlib.Omega.{arith}
use Rattle.tcc.proofs.Passes.{matched}
use Rattle.tcc.proofs.Marks.{marked_none, marked_next, marked_all}
use Rattle.tcc.proofs.mark_ends.Goals as goal

pub loop-p-init : goal.loop-p-init
loop-p-init c = marked_none c.requires.0 c.requires.1

pub cluster_end-p-requires : goal.cluster_end-p-requires
cluster_end-p-requires c = c.loop-p-test.true

pub offset_bounds-row-p : goal.offset_bounds-row-p
offset_bounds-row-p c =
    omega (
      arith,
      c.loop-p.invariant.long,
      (matched c.loop-p-test.true
          c.cluster_end-p.ensures).inside,
      c.requires.0,
    )

pub bounds-row-p : goal.bounds-row-p
bounds-row-p c =
    omega (
      arith,
      c.loop-p.invariant.long,
      (matched c.loop-p-test.true
          c.cluster_end-p.ensures).inside,
      c.requires.0,
    )

pub loop-p-smaller : goal.loop-p-smaller
loop-p-smaller c = omega (arith, (matched c.loop-p-test.true c.cluster_end-p.ensures).past, c.loop-p-test.true)

pub loop-p-preserved : goal.loop-p-preserved
loop-p-preserved c = marked_next c.requires.0 c.loop-p.invariant c.loop-p-test.true c.cluster_end-p.ensures

pub shape_of-row : goal.shape_of-row
shape_of-row c = c.loop-p.invariant.long

pub returns : goal.returns
returns c = marked_all c.requires.0 c.loop-p.invariant c.loop-p-test.false
