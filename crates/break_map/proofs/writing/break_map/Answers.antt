use native.Mathlib.Omega.{arith}
use mathlib.Core.Path.{sym, ◌∙◌}
use lib.ListN.{length}
use lib.Seq.{length-take-le}
use Rattle.refusal.proofs.Causes.{handed_on}
use Rattle.break_map.proofs.Checks.{used_is, size_is, map_unsized, wrong_end, map_accepted, bits_enough, map_written}
use Rattle.break_map.proofs.writing.break_map.Goals as goal

pub returns-in_err-used : goal.returns-in_err-used
returns-in_err-used c =
    let e = handed_on c.from_residual.ensures.1 in
    let both = map_unsized c.args.n c.args.ends.now c.args.map.now (e ∙ c.in_err-used.ensures) e in
    record { value = both.0; map_after = both.1 }

pub returns-in-Some : goal.returns-in-Some
returns-in-Some c =
    let both = wrong_end c.args.n c.args.ends.now c.args.map.now
    (sym c.in_ok-used.ensures) c.in-Some.ensures.index c.in-Some.ensures.within in record { value = both.0; map_after = both.1 }

pub slice_bounds-write_bits-end : goal.slice_bounds-write_bits-end
slice_bounds-write_bits-end c =
    let h = sym c.in_ok-used.ensures in
    omega (
      arith,
      used_is c.args.n (length c.args.map.now) h,
      (size_is c.args.n
          (length c.args.map.now) h).1,
    )

pub slice_bounds-write_bits-end-2 : goal.slice_bounds-write_bits-end-2
slice_bounds-write_bits-end-2 c =
    let h = sym c.in_ok-used.ensures in
    sym (length-take-le c.in_ok-used.used c.args.map.now
    (omega (
      arith,
      used_is c.args.n (length c.args.map.now) h,
      (size_is c.args.n
          (length c.args.map.now) h).1,
    )))

pub write_bits-requires : goal.write_bits-requires
write_bits-requires c =
    bits_enough c.args.n c.args.ends.now c.args.map.now
    (sym c.in_ok-used.ensures) c.in_default.ensures.index (omega arith)

pub returns : goal.returns
returns c =
    let h = sym c.in_ok-used.ensures in record {
      value = map_accepted c.args.n c.args.ends.now c.args.map.now h c.in_default.ensures.index
          (omega arith);
      map_after = map_written c.args.n c.args.ends.now c.args.map.now h
          c.in_default.ensures.index (omega arith) _ c.write_bits.ensures;
    }
