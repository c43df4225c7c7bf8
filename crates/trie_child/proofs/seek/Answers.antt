use mathlib.Core.Path.{refl}
use native.Mathlib.Omega.{arith}
use Rattle.trie_child.proofs.Nearing.{children_fit, no_child, at_first, past_last, nearest, not_first, down, right_behind, right_here, between_here}
use Rattle.trie_child.proofs.seek.Goals as goal

pub returns-then-count-eq0 : goal.returns-then-count-eq0
returns-then-count-eq0 c = no_child _ _ _ _ _ c.requires refl refl c.if-count-eq0.true

pub overflow_mul-lowest : goal.overflow_mul-lowest
overflow_mul-lowest c = omega (arith, children_fit _ _ 0 _ _ c.requires refl refl)

pub offset_bounds-p-first : goal.offset_bounds-p-first
offset_bounds-p-first c = let z = c.if-count-eq0.false in omega (arith, children_fit _ _ 0 _ _ c.requires refl refl)

pub bounds-p-first : goal.bounds-p-first
bounds-p-first c = let z = c.if-count-eq0.false in omega (arith, children_fit _ _ 0 _ _ c.requires refl refl)

pub returns-then-x-lowest : goal.returns-then-x-lowest
returns-then-x-lowest c = at_first _ _ _ _ _ c.requires refl refl c.if-x-lowest.true

pub overflow_add-last : goal.overflow_add-last
overflow_add-last c = omega (arith, children_fit _ _ 0 _ _ c.requires refl refl)

pub overflow_sub-last : goal.overflow_sub-last
overflow_sub-last c = let z = c.if-count-eq0.false in omega arith

pub overflow_mul-last : goal.overflow_mul-last
overflow_mul-last c = omega (arith, children_fit _ _ 0 _ _ c.requires refl refl)

pub offset_bounds-p-last : goal.offset_bounds-p-last
offset_bounds-p-last c = let z = c.if-count-eq0.false in omega (arith, children_fit _ _ 0 _ _ c.requires refl refl)

pub bounds-p-last : goal.bounds-p-last
bounds-p-last c = let z = c.if-count-eq0.false in omega (arith, children_fit _ _ 0 _ _ c.requires refl refl)

pub overflow_add-result : goal.overflow_add-result
overflow_add-result c = omega (arith, children_fit _ _ 0 _ _ c.requires refl refl)

pub returns-then-p-last : goal.returns-then-p-last
returns-then-p-last c = past_last _ _ _ _ _ c.requires refl refl c.if-count-eq0.false c.if-p-last.true

pub overflow_sub-count : goal.overflow_sub-count
overflow_sub-count c = let z = c.if-count-eq0.false in omega arith

pub overflow_add-k : goal.overflow_add-k
overflow_add-k c = let z = c.if-count-eq0.false in omega (arith, children_fit _ _ 0 _ _ c.requires refl refl, c.min.ensures)

pub overflow_add-first-2 : goal.overflow_add-first-2
overflow_add-first-2 c = let z = c.if-count-eq0.false in omega (arith, children_fit _ _ 0 _ _ c.requires refl refl, c.min.ensures)

pub overflow_sub-nearest : goal.overflow_sub-nearest
overflow_sub-nearest c = omega (arith, c.if-first-k.true)

pub overflow_mul-nearest : goal.overflow_mul-nearest
overflow_mul-nearest c = let z = c.if-count-eq0.false in omega (arith, children_fit _ _ 0 _ _ c.requires refl refl, c.min.ensures, c.if-first-k.true)

pub offset_bounds-p-nearest : goal.offset_bounds-p-nearest
offset_bounds-p-nearest c = let z = c.if-count-eq0.false in omega (arith, children_fit _ _ 0 _ _ c.requires refl refl, c.min.ensures, c.if-first-k.true)

pub bounds-p-nearest : goal.bounds-p-nearest
bounds-p-nearest c = let z = c.if-count-eq0.false in omega (arith, children_fit _ _ 0 _ _ c.requires refl refl, c.min.ensures, c.if-first-k.true)

pub halved-requires : goal.halved-requires
halved-requires c = let z = c.if-count-eq0.false in between_here _ _ _ _ _ c.requires refl refl c.if-x-lowest.false _ (omega (arith, c.if-first-k.true)) (omega (arith, c.min.ensures)) c.if-x-p.true

pub returns-then-x-p : goal.returns-then-x-p
returns-then-x-p c = c.halved.ensures

pub loop-k-init : goal.loop-k-init
loop-k-init c = nearest _ _ _ _ _ c.requires refl refl c.if-x-lowest.false c.if-count-eq0.false _ _ refl c.min.ensures

pub overflow_mul-k : goal.overflow_mul-k
overflow_mul-k c = let v = c.loop-k.invariant in omega (arith, children_fit _ _ 0 _ _ c.requires refl refl, v.upto)

pub offset_bounds-p-k : goal.offset_bounds-p-k
offset_bounds-p-k c = let v = c.loop-k.invariant in omega (arith, children_fit _ _ 0 _ _ c.requires refl refl, v.upto)

pub bounds-p-k : goal.bounds-p-k
bounds-p-k c = let v = c.loop-k.invariant in omega (arith, children_fit _ _ 0 _ _ c.requires refl refl, v.upto)

pub overflow_sub-k : goal.overflow_sub-k
overflow_sub-k c = omega (arith, not_first _ _ _ _ _ c.requires refl refl c.if-x-lowest.false _ c.loop-k.invariant c.loop-k-test.true)

pub loop-k-smaller : goal.loop-k-smaller
loop-k-smaller c = omega (arith, not_first _ _ _ _ _ c.requires refl refl c.if-x-lowest.false _ c.loop-k.invariant c.loop-k-test.true)

pub loop-k-preserved : goal.loop-k-preserved
loop-k-preserved c = down _ _ _ _ _ c.requires refl refl c.if-x-lowest.false _ c.loop-k.invariant c.loop-k-test.true

pub overflow_mul-k-2 : goal.overflow_mul-k-2
overflow_mul-k-2 c = let v = c.loop-k.invariant in omega (arith, children_fit _ _ 0 _ _ c.requires refl refl, v.upto)

pub offset_bounds-p-k-2 : goal.offset_bounds-p-k-2
offset_bounds-p-k-2 c = let v = c.loop-k.invariant in omega (arith, children_fit _ _ 0 _ _ c.requires refl refl, v.upto)

pub bounds-p-k-2 : goal.bounds-p-k-2
bounds-p-k-2 c = let v = c.loop-k.invariant in omega (arith, children_fit _ _ 0 _ _ c.requires refl refl, v.upto)

pub overflow_add-result-then-p-k : goal.overflow_add-result-then-p-k
overflow_add-result-then-p-k c = let v = c.loop-k.invariant in omega (arith, children_fit _ _ 0 _ _ c.requires refl refl, v.upto)

pub returns-then-p-k : goal.returns-then-p-k
returns-then-p-k c = right_behind _ _ _ _ _ c.requires refl refl _ c.loop-k.invariant c.if-p-k.true

pub returns : goal.returns
returns c = right_here _ _ _ _ _ c.requires refl refl _ c.loop-k.invariant c.loop-k-test.false c.if-p-k.false
