use mathlib.Core.Path.{refl}
use native.Mathlib.Omega.{arith}
use Rattle.trie_change.proofs.Adding.{block_end, grew_past, plants_past, grew_other, plants_other, stayed_here}
use Rattle.trie_change.proofs.add.enter.Goals as goal

pub overflow_add-e : goal.overflow_add-e
overflow_add-e c =
    let v = block_end _ _ _ _ c.requires c.seek-r.ensures _ _ refl refl in
    omega (arith, v.1)

pub plant-requires : goal.plant-requires
plant-requires c =
    plants_past _ _ _ _ c.requires c.seek-r.ensures _ _ _ refl refl
    refl c.if-e-r.true

pub returns-then-e-r : goal.returns-then-e-r
returns-then-e-r c =
    grew_past _ _ _ _ c.requires c.seek-r.ensures _ _ _ _ refl refl
    refl c.if-e-r.true c.plant.ensures

pub overflow_mul-r : goal.overflow_mul-r
overflow_mul-r c =
    let v = block_end _ _ _ _ c.requires c.seek-r.ensures _ _ refl refl in
    omega (arith, v.1, c.if-e-r.false)

pub offset_bounds-p-r : goal.offset_bounds-p-r
offset_bounds-p-r c =
    let v = block_end _ _ _ _ c.requires c.seek-r.ensures _ _ refl refl in
    omega (arith, v.1, c.if-e-r.false)

pub bounds-p-r : goal.bounds-p-r
bounds-p-r c =
    let v = block_end _ _ _ _ c.requires c.seek-r.ensures _ _ refl refl in
    omega (arith, v.1, c.if-e-r.false)

pub plant-requires-then-p-r : goal.plant-requires-then-p-r
plant-requires-then-p-r c =
    plants_other _ _ _ _ c.requires c.seek-r.ensures _ _ _ refl refl
    refl c.if-e-r.false c.if-p-r.true

pub returns-then-p-r : goal.returns-then-p-r
returns-then-p-r c =
    grew_other _ _ _ _ c.requires c.seek-r.ensures _ _ _ _ refl refl
    refl c.if-e-r.false c.if-p-r.true c.plant-then-p-r.ensures

pub returns : goal.returns
returns c =
    stayed_here _ _ _ _ c.requires c.seek-r.ensures _ _ refl refl c.if-e-r.false
    c.if-p-r.false
