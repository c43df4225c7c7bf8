use Prim.Native.Nat.{◌-◌}
use mathlib.Core.Path.{sym}
use native.Mathlib.Omega.{arith}
use Rattle.trie_check.proofs.Parts.{long}
use Rattle.bench_prefix_search.proofs.Places.{long_text, short_row, no_dictionary, going_none, going_asks, more_few, going_on, going_readable, going_all}
use Rattle.bench_prefix_search.proofs.search_places.Goals as goal

pub returns-then-text-gt65535 : goal.returns-then-text-gt65535
returns-then-text-gt65535 c = long_text c.args.pool.now c.args.text.now c.args.out.now c.if-text-gt65535.true

pub returns-then-out-text : goal.returns-then-out-text
returns-then-out-text c = short_row c.args.pool.now c.args.text.now c.args.out.now c.if-out-text.true

pub returns-then-not-is_dictionary : goal.returns-then-not-is_dictionary
returns-then-not-is_dictionary c =
    no_dictionary c.args.pool.now c.args.text.now c.args.out.now _
    c.is_dictionary.ensures c.if-not-is_dictionary.true

pub loop-place-init : goal.loop-place-init
loop-place-init c = going_none _ _ _

pub slice_bounds-prefix_lengths-end : goal.slice_bounds-prefix_lengths-end
slice_bounds-prefix_lengths-end c = sym (long c.args.pool.now _ c.capacity-cells.ensures)

pub prefix_lengths-more-requires : goal.prefix_lengths-more-requires
prefix_lengths-more-requires c =
    going_asks c.loop-place.invariant c.loop-place-test.true (omega (arith, c.if-text-gt65535.false)) (omega (arith, c.if-out-text.false))
    (going_readable c.args.pool.now c.args.text.now c.args.out.now _ c.capacity-cells.ensures _
    c.is_dictionary.ensures c.if-not-is_dictionary.false (omega (arith, c.if-text-gt65535.false))
    (omega (arith, c.if-out-text.false)))

pub overflow_add-found : goal.overflow_add-found
overflow_add-found c =
    omega (
      arith,
      more_few c.loop-place.invariant c.loop-place-test.true (omega (arith, c.if-text-gt65535.false))
          (omega (arith, c.if-out-text.false)) _ _ c.prefix_lengths-more.ensures,
      c.if-text-gt65535.false,
      c.loop-place.invariant.upto,
    )

pub loop-place-smaller : goal.loop-place-smaller
loop-place-smaller c = omega (arith, c.loop-place-test.true)

pub loop-place-preserved : goal.loop-place-preserved
loop-place-preserved c =
    going_on c.loop-place.invariant c.loop-place-test.true (omega (arith, c.if-text-gt65535.false))
    (omega (arith, c.if-out-text.false)) _ _ c.prefix_lengths-more.ensures

pub shape_of-out : goal.shape_of-out
shape_of-out c = c.loop-place.invariant.long

pub returns : goal.returns
returns c =
    going_all c.args.pool.now c.args.text.now c.args.out.now _ c.capacity-cells.ensures _
    c.is_dictionary.ensures c.if-not-is_dictionary.false (omega (arith, c.if-text-gt65535.false))
    (omega (arith, c.if-out-text.false)) c.loop-place.invariant c.loop-place-test.false
