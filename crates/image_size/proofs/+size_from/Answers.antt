use Prim.Native.Nat.{◌-◌}
use native.Mathlib.Omega.{arith}
use mathlib.Core.Path.{sym, ◌∙◌}
use Rattle.trie_pool.proofs.Shape.{first_is, count_is}
use Rattle.image_size.proofs.Sizing.{scalar_is, cells, bytes_most, block_end, nodes_few, child_stands, sizing_none, below_end, kid_in, size_fits, sizing_next, sizing_all, inside}
use Rattle.image_size.proofs.+size_from.Goals as goal

pub mark_at-requires : goal.mark_at-requires
mark_at-requires t c = cells c.requires

pub own_size-size-requires : goal.own_size-size-requires
own_size-size-requires t c = bytes_most c.requires

pub overflow_mul-first : goal.overflow_mul-first
overflow_mul-first t c = let s = c.requires in omega (arith, inside s, nodes_few s)

pub overflow_add-first : goal.overflow_add-first
overflow_add-first t c = let s = c.requires in omega (arith, inside s, nodes_few s)

pub offset_bounds-p-i : goal.offset_bounds-p-i
offset_bounds-p-i t c = let s = c.requires in omega (arith, inside s, nodes_few s)

pub bounds-p-i : goal.bounds-p-i
bounds-p-i t c = omega (arith, cells c.requires)

pub overflow_mul-count : goal.overflow_mul-count
overflow_mul-count t c = let s = c.requires in omega (arith, inside s, nodes_few s)

pub overflow_add-count : goal.overflow_add-count
overflow_add-count t c = let s = c.requires in omega (arith, inside s, nodes_few s)

pub offset_bounds-p-i-2 : goal.offset_bounds-p-i-2
offset_bounds-p-i-2 t c = let s = c.requires in omega (arith, inside s, nodes_few s)

pub bounds-p-i-2 : goal.bounds-p-i-2
bounds-p-i-2 t c = omega (arith, cells c.requires)

pub overflow_add-k-end : goal.overflow_add-k-end
overflow_add-k-end t c =
    let s = c.requires in
    omega (
      arith,
      block_end s,
      nodes_few s,
      first_is c.args.p.now
          c.args.i,
      count_is c.args.p.now c.args.i,
    )

pub loop-k-init : goal.loop-k-init
loop-k-init t c =
    sizing_none c.requires _ _ _ _ c.own_size-size.ensures c.mark_at.ensures
    (sym (first_is c.args.p.now c.args.i))
    (sym (count_is c.args.p.now c.args.i))

pub overflow_mul-k : goal.overflow_mul-k
overflow_mul-k t c =
    let z = kid_in c.requires c.loop-k.invariant c.loop-k-test.true in
    omega arith

pub offset_bounds-p-k : goal.offset_bounds-p-k
offset_bounds-p-k t c =
    let z = kid_in c.requires c.loop-k.invariant c.loop-k-test.true in
    omega arith

pub bounds-p-k : goal.bounds-p-k
bounds-p-k t c =
    let z = kid_in c.requires c.loop-k.invariant c.loop-k-test.true in
    omega arith

pub overflow_add-bytes : goal.overflow_add-bytes
overflow_add-bytes t c =
    let b = bytes_most c.requires in
    omega (
      arith,
      bytes_most
          (child_stands c.requires _ c.loop-k.invariant.low
          (below_end c.requires c.loop-k.invariant c.loop-k-test.true) _ _ (scalar_is c.args.p.now _)
          c.scalar_size.ensures),
    )

pub size_from-size-requires : goal.size_from-size-requires
size_from-size-requires t c = (
  let z = kid_in c.requires c.loop-k.invariant c.loop-k-test.true in omega (arith, c.decreases),
  child_stands
      c.requires _ c.loop-k.invariant.low (below_end c.requires c.loop-k.invariant c.loop-k-test.true) _ _
      (scalar_is c.args.p.now _) c.scalar_size.ensures,
)

pub overflow_add-size : goal.overflow_add-size
overflow_add-size t c =
    omega (
      arith,
      size_fits c.requires c.loop-k.invariant c.loop-k-test.true _ _ _
          (scalar_is c.args.p.now _) c.scalar_size.ensures c.size_from-size.ensures,
    )

pub loop-k-preserved : goal.loop-k-preserved
loop-k-preserved t c =
    sizing_next c.requires c.loop-k.invariant c.loop-k-test.true _ _ _ (scalar_is c.args.p.now _)
    c.scalar_size.ensures c.size_from-size.ensures

pub returns : goal.returns
returns t c = sizing_all c.loop-k.invariant c.loop-k-test.false
