use native.Mathlib.Omega.{arith}
use mathlib.Core.Path.{sym, ◌∙◌}
use mathlib.Core.List.{[], ◌∷◌}
use lib.ListN.{length}
use Rattle.refusal.proofs.Causes.{handed, handed_on}
use Rattle.break_map_rules.specs.Maps.{cells_for}
use Rattle.break_map_rules.specs.Answers.{size_causes, position_cause, above_cause}
use Rattle.break_map.proofs.Checks.{used_is, size_is, wrong_position, no_room_above, clear_above, bit_above}
use Rattle.break_map.proofs.reading.check_read.Goals as goal

pub returns-in_err-used : goal.returns-in_err-used
returns-in_err-used c =
    let e = handed_on c.from_residual.ensures.1 in
    handed (size_causes c.args.n (length c.args.map.now))
    (position_cause c.args.n c.args.position ∷ above_cause c.args.n c.args.map.now ∷ [])
    (cells_for c.args.n) (cells_for c.args.n) (e ∙ c.in_err-used.ensures) e

pub returns-then-n-position : goal.returns-then-n-position
returns-then-n-position c =
    wrong_position c.args.n c.args.map.now c.args.position
    (sym c.in_ok-used.ensures) c.if-n-position.true

pub overflow_add-above : goal.overflow_add-above
overflow_add-above c =
    let h = sym c.in_ok-used.ensures in
    omega (arith, (size_is c.args.n (length c.args.map.now) h).0)

pub overflow_mul-used : goal.overflow_mul-used
overflow_mul-used c =
    let h = sym c.in_ok-used.ensures in
    omega (
      arith,
      used_is c.args.n (length c.args.map.now) h,
      (size_is c.args.n
          (length c.args.map.now) h).0,
    )

pub returns-then-above-used : goal.returns-then-above-used
returns-then-above-used c =
    no_room_above c.args.n c.args.map.now c.args.position
    (sym c.in_ok-used.ensures) c.if-n-position.false c.if-above-used.true

pub bits_from-bits-requires : goal.bits_from-bits-requires
bits_from-bits-requires c =
    let h = sym c.in_ok-used.ensures in
    omega (
      arith,
      used_is c.args.n (length c.args.map.now) h,
      (size_is c.args.n
          (length c.args.map.now) h).1,
      c.if-above-used.false,
    )

pub overflow_add-result : goal.overflow_add-result
overflow_add-result c =
    let h = sym c.in_ok-used.ensures in
    omega (arith, (size_is c.args.n (length c.args.map.now) h).0, c.lowest.ensures.1)

pub returns-then-bits-ne0 : goal.returns-then-bits-ne0
returns-then-bits-ne0 c =
    bit_above c.args.n c.args.map.now c.args.position
    (sym c.in_ok-used.ensures) c.if-n-position.false c.if-above-used.false c.bits_from-bits.ensures
    c.if-bits-ne0.true c.lowest.ensures.0

pub returns : goal.returns
returns c =
    clear_above c.args.n c.args.map.now c.args.position
    (sym c.in_ok-used.ensures) c.if-n-position.false c.if-above-used.false
    c.bits_from-bits.ensures c.if-bits-ne0.false
