use Prim.Native.Nat.{ℕ, ◌+◌, ◌*◌, ◌-◌}
use native.Mathlib.Omega.{arith}
use mathlib.Core.Path.{refl, ap, ◌∙◌}
use Rattle.newmm_tell.proofs.Telling.{telling_none, row_long, inside, token, place, fits, telling_more, telling_all}
use Rattle.newmm_tell.proofs.tell.Goals as goal

pub loop-i-init : goal.loop-i-init
loop-i-init c = telling_none c.requires.0 _

pub bounds-row-i : goal.bounds-row-i
bounds-row-i c = inside c.requires.0 _ c.loop-i.invariant c.loop-i-test.true

pub slice_bounds-reason_at-end : goal.slice_bounds-reason_at-end
slice_bounds-reason_at-end c = omega (arith, row_long c.requires.0 _ c.loop-i.invariant, c.requires.0.room)

pub reason_at-reason-requires : goal.reason_at-reason-requires
reason_at-reason-requires c =
    record {
      place = place c.requires.0 _ c.loop-i.invariant c.loop-i-test.true refl refl;
      token = token c.requires.0 _ c.loop-i.invariant c.loop-i-test.true refl;
    }

pub overflow_cast-row : goal.overflow_cast-row
overflow_cast-row c = omega (arith, (fits c.requires.0 _ c.loop-i.invariant c.loop-i-test.true refl c.reason_at-reason.ensures c.requires.1).0)

pub overflow_mul-row : goal.overflow_mul-row
overflow_mul-row c = omega (arith, (fits c.requires.0 _ c.loop-i.invariant c.loop-i-test.true refl c.reason_at-reason.ensures c.requires.1).0)

pub overflow_add-row-in-loop-i : goal.overflow_add-row-in-loop-i
overflow_add-row-in-loop-i c =
    let f = fits c.requires.0 _ c.loop-i.invariant c.loop-i-test.true refl (c.number.ensures ∙ c.reason_at-reason.ensures) c.requires.1 in
    omega (arith, f.0, f.1)

pub loop-i-preserved : goal.loop-i-preserved
loop-i-preserved c =
    telling_more c.requires.0 _ c.loop-i.invariant c.loop-i-test.true refl (c.number.ensures ∙ c.reason_at-reason.ensures) refl

pub shape_of-row : goal.shape_of-row
shape_of-row c = row_long c.requires.0 _ c.loop-i.invariant

pub returns : goal.returns
returns c = telling_all c.requires.0 _ c.loop-i.invariant (let t = c.loop-i-test.false in omega arith)
