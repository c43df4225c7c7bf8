use mathlib.Core.Path.{refl, ◌∙◌}
use native.Mathlib.Omega.{arith}
use Rattle.refusal.proofs.Causes.{handed_on}
use Rattle.utf8.specs.Decoding.{room_in}
use Rattle.utf8.proofs.Decoded.{number_is, whole_is, broken, long, tight, cramped, taken}
use Rattle.utf8.proofs.decode.Goals as goal

pub returns-in_err-scalars-clause-value : goal.returns-in_err-scalars-clause-value
returns-in_err-scalars-clause-value c =
    handed_on c.from_residual.ensures.1 ∙ broken c.args.bytes.now (room_in c.args.out.now c.args.positions.now) c.in_err-scalars.ensures

pub returns-then-scalars-gt-MAX_SCALARS : goal.returns-then-scalars-gt-MAX_SCALARS
returns-then-scalars-gt-MAX_SCALARS c =
    record {
      value = long c.args.bytes.now (room_in c.args.out.now c.args.positions.now) c.in_ok-scalars.ensures c.if-scalars-gt-MAX_SCALARS.true;
      out_after = refl;
      positions_after = refl;
    }

pub returns-then-out-scalars : goal.returns-then-out-scalars
returns-then-out-scalars c =
    record {
      value = tight c.args.bytes.now (room_in c.args.out.now c.args.positions.now) c.in_ok-scalars.ensures c.if-scalars-gt-MAX_SCALARS.false c.if-out-scalars.true;
      out_after = refl;
      positions_after = refl;
    }

pub returns-then-positions-places : goal.returns-then-positions-places
returns-then-positions-places c =
    record {
      value = cramped c.args.bytes.now (room_in c.args.out.now c.args.positions.now) c.in_ok-scalars.ensures c.if-scalars-gt-MAX_SCALARS.false c.if-out-scalars.false _ refl c.if-positions-places.true;
      out_after = refl;
      positions_after = refl;
    }

pub fill-requires : goal.fill-requires
fill-requires c =
    let z = number_is c.args.bytes.now (room_in c.args.out.now c.args.positions.now) c.in_ok-scalars.ensures in record {
      s_value = whole_is c.args.bytes.now (room_in c.args.out.now c.args.positions.now) c.in_ok-scalars.ensures;
      s_len_bound = omega (arith, z, c.if-scalars-gt-MAX_SCALARS.false);
      s_in_bounds = omega (arith, z, c.if-out-scalars.false);
      s_in_bounds_2 = omega (arith, z, c.if-positions-places.false);
    }

pub returns : goal.returns
returns c =
    record {
      value = taken c.args.bytes.now (room_in c.args.out.now c.args.positions.now) c.in_ok-scalars.ensures c.if-scalars-gt-MAX_SCALARS.false c.if-out-scalars.false c.if-positions-places.false;
      out_after = c.fill.ensures.out_after;
      positions_after = c.fill.ensures.positions_after;
    }
