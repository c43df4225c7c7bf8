use Prim.Native.Nat.{◌-◌}
use native.Mathlib.Omega.{arith}
use mathlib.Core.Path.{refl, sym, ◌∙◌}
use Rattle.trie_pool.proofs.Shape.{first_is, count_is}
use Rattle.image_size.proofs.Sizing.{scalar_is, cells, block_end, nodes_few, inside}
use Rattle.image_write.proofs.Writing.{stands, going_none, kid_in, kid_mark, scalar_fits, own_asks, kid_writes, going_next, going_all}
use Rattle.image_write.proofs.+write_below.Goals as goal

pub overflow_mul-first : goal.overflow_mul-first
overflow_mul-first t c = let s = stands c.requires in omega (arith, inside s, nodes_few s)

pub overflow_add-first : goal.overflow_add-first
overflow_add-first t c = let s = stands c.requires in omega (arith, inside s, nodes_few s)

pub offset_bounds-p-i : goal.offset_bounds-p-i
offset_bounds-p-i t c = let s = stands c.requires in omega (arith, inside s, nodes_few s)

pub bounds-p-i : goal.bounds-p-i
bounds-p-i t c = omega (arith, cells (stands c.requires))

pub overflow_mul-count : goal.overflow_mul-count
overflow_mul-count t c = let s = stands c.requires in omega (arith, inside s, nodes_few s)

pub overflow_add-count : goal.overflow_add-count
overflow_add-count t c = let s = stands c.requires in omega (arith, inside s, nodes_few s)

pub offset_bounds-p-i-2 : goal.offset_bounds-p-i-2
offset_bounds-p-i-2 t c = let s = stands c.requires in omega (arith, inside s, nodes_few s)

pub bounds-p-i-2 : goal.bounds-p-i-2
bounds-p-i-2 t c = omega (arith, cells (stands c.requires))

pub overflow_add-k-end : goal.overflow_add-k-end
overflow_add-k-end t c =
    let s = stands c.requires in
    omega (
      arith,
      block_end s,
      nodes_few s,
      first_is c.args.p.now
          c.args.i,
      count_is c.args.p.now c.args.i,
    )

pub loop-k-init : goal.loop-k-init
loop-k-init t c =
    going_none c.requires _ _ (sym (first_is c.args.p.now c.args.i))
    (sym (count_is c.args.p.now c.args.i))

pub overflow_mul-k : goal.overflow_mul-k
overflow_mul-k t c =
    let z = kid_in c.requires c.loop-k.invariant c.loop-k-test.true in
    omega arith

pub offset_bounds-p-k : goal.offset_bounds-p-k
offset_bounds-p-k t c =
    let z = kid_in c.requires c.loop-k.invariant c.loop-k-test.true in
    omega arith

pub bounds-p-k : goal.bounds-p-k
bounds-p-k t c =
    let z = kid_in c.requires c.loop-k.invariant c.loop-k-test.true in
    omega arith

pub put_scalar-m-requires : goal.put_scalar-m-requires
put_scalar-m-requires t c = scalar_fits c.requires c.loop-k.invariant c.loop-k-test.true _ (scalar_is c.args.p.now _)

pub overflow_mul-k-in-loop-k : goal.overflow_mul-k-in-loop-k
overflow_mul-k-in-loop-k t c =
    let z = kid_in c.requires c.loop-k.invariant c.loop-k-test.true in
    omega arith

pub overflow_add-k : goal.overflow_add-k
overflow_add-k t c =
    let z = kid_in c.requires c.loop-k.invariant c.loop-k-test.true in
    omega arith

pub offset_bounds-p-k-in-loop-k : goal.offset_bounds-p-k-in-loop-k
offset_bounds-p-k-in-loop-k t c =
    let z = kid_in c.requires c.loop-k.invariant c.loop-k-test.true in
    omega arith

pub bounds-p-k-in-loop-k : goal.bounds-p-k-in-loop-k
bounds-p-k-in-loop-k t c =
    let z = kid_in c.requires c.loop-k.invariant c.loop-k-test.true in
    omega arith

pub put_own-next-requires : goal.put_own-next-requires
put_own-next-requires t c =
    own_asks c.requires c.loop-k.invariant c.loop-k-test.true _ (scalar_is c.args.p.now _) _ _
    c.put_scalar-m.ensures.value c.put_scalar-m.ensures.row_after _
    (kid_mark c.requires c.loop-k.invariant c.loop-k-test.true _ refl) c.put_scalar-m.auto.row

pub write_below-end-requires : goal.write_below-end-requires
write_below-end-requires t c = (
  let z = kid_in c.requires c.loop-k.invariant c.loop-k-test.true in omega (arith, c.decreases),
  kid_writes
      c.requires c.loop-k.invariant c.loop-k-test.true _ (scalar_is c.args.p.now _) _ _
      c.put_scalar-m.ensures.value c.put_scalar-m.ensures.row_after _
      (kid_mark c.requires c.loop-k.invariant c.loop-k-test.true _ refl) _ _
      c.put_own-next.ensures c.put_scalar-m.auto.row c.put_own-next.auto.out,
)

pub loop-k-preserved : goal.loop-k-preserved
loop-k-preserved t c =
    going_next c.requires c.loop-k.invariant c.loop-k-test.true _ (scalar_is c.args.p.now _) _ _
    c.put_scalar-m.ensures.value c.put_scalar-m.ensures.row_after _
    (kid_mark c.requires c.loop-k.invariant c.loop-k-test.true _ refl) _ _
    c.put_own-next.ensures _ _ _ c.write_below-end.ensures c.put_scalar-m.auto.row
    c.write_below-end.auto.path c.put_own-next.auto.out c.write_below-end.auto.out

pub shape_of-path : goal.shape_of-path
shape_of-path t c = c.loop-k.invariant.same_row

pub shape_of-out : goal.shape_of-out
shape_of-out t c = c.loop-k.invariant.same_out

pub returns : goal.returns
returns t c = going_all c.loop-k.invariant c.loop-k-test.false
