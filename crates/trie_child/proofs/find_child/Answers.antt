use mathlib.Core.Path.{refl, sym}
use native.Mathlib.Omega.{arith}
use Rattle.trie_pool.specs.Cells.{scalar_at}
use Rattle.trie_child.proofs.Finding.{past, other, found, no_children, only_child, only_other}
use Rattle.trie_child.proofs.Nearing.{children_fit, ends_at}
use Rattle.trie_child.proofs.find_child.Goals as goal

pub returns-then-count-eq0 : goal.returns-then-count-eq0
returns-then-count-eq0 c = sym (no_children _ _ _ _ _ c.requires refl refl c.if-count-eq0.true)

pub overflow_mul-first : goal.overflow_mul-first
overflow_mul-first c =
    let h = children_fit _ _ 0 _ _ c.requires refl refl in
    omega (arith, h)

pub offset_bounds-p-first : goal.offset_bounds-p-first
offset_bounds-p-first c =
    let h = children_fit _ _ 0 _ _ c.requires refl refl in
    omega (arith, h)

pub bounds-p-first : goal.bounds-p-first
bounds-p-first c =
    let h = children_fit _ _ 0 _ _ c.requires refl refl in
    omega (arith, h, c.if-count-eq1.true)

pub returns-then-p-first : goal.returns-then-p-first
returns-then-p-first c = sym (only_other _ _ _ _ _ c.requires refl refl c.if-count-eq1.true c.if-p-first.true)

pub returns-then-count-eq1 : goal.returns-then-count-eq1
returns-then-count-eq1 c = sym (only_child _ _ _ _ _ c.requires refl refl c.if-count-eq1.true c.if-p-first.false)

pub overflow_add-first : goal.overflow_add-first
overflow_add-first c =
    let h = children_fit _ _ 0 _ _ c.requires refl refl in
    omega (arith, h)

pub returns-then-first-count : goal.returns-then-first-count
returns-then-first-count c =
    sym (past _ _ _ _ c.seek-r.ensures
    (omega (arith, ends_at _ _ 0 _ _ c.requires refl refl, c.if-first-count.true)))

pub overflow_mul-r : goal.overflow_mul-r
overflow_mul-r c =
    let h = children_fit _ _ 0 _ _ c.requires refl refl in
    omega (arith, h, c.if-first-count.false)

pub offset_bounds-p-r : goal.offset_bounds-p-r
offset_bounds-p-r c =
    let h = children_fit _ _ 0 _ _ c.requires refl refl in
    omega (arith, h, c.if-first-count.false)

pub bounds-p-r : goal.bounds-p-r
bounds-p-r c =
    let h = children_fit _ _ 0 _ _ c.requires refl refl in
    omega (arith, h, c.if-first-count.false)

pub returns-then-p-r : goal.returns-then-p-r
unfolding scalar_at
returns-then-p-r c =
    sym (other _ _ _ _ c.seek-r.ensures
    (omega (arith, ends_at _ _ 0 _ _ c.requires refl refl, c.if-first-count.false))
    c.if-p-r.true)

pub returns : goal.returns
unfolding scalar_at
returns c =
    sym (found _ _ _ _ c.seek-r.ensures
    (omega (arith, ends_at _ _ 0 _ _ c.requires refl refl, c.if-first-count.false))
    c.if-p-r.false)
