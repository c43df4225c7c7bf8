use native.Mathlib.Omega.{arith}
use lib.ListN.{length-set}
use Rattle.trie_change.proofs.Adding.{begin, enters, turn, done, inside_end}
use Rattle.trie_change.proofs.add.add_word.Goals as goal

pub loop-x-init : goal.loop-x-init
loop-x-init c = begin _ _ _ c.requires

pub enter-i-requires : goal.enter-i-requires
enter-i-requires c = enters _ _ _ _ _ _ c.requires c.loop-x.invariant c.loop-x-test.true

pub loop-x-preserved : goal.loop-x-preserved
loop-x-preserved c = turn _ _ _ _ _ _ c.requires c.loop-x.invariant c.loop-x-test.true _ _ c.enter-i.auto.p c.enter-i.ensures

pub overflow_mul-p : goal.overflow_mul-p
overflow_mul-p c = let v = inside_end _ _ _ _ _ c.loop-x.invariant in omega arith

pub overflow_add-p : goal.overflow_add-p
overflow_add-p c = let v = inside_end _ _ _ _ _ c.loop-x.invariant in omega arith

pub offset_bounds-p-i : goal.offset_bounds-p-i
offset_bounds-p-i c = let v = inside_end _ _ _ _ _ c.loop-x.invariant in omega arith

pub bounds-p-i : goal.bounds-p-i
bounds-p-i c = inside_end _ _ _ _ _ c.loop-x.invariant

pub shape_of-p : goal.shape_of-p
shape_of-p c = simp length-set c.loop-x.invariant.long

pub returns : goal.returns
returns c = done _ _ _ _ _ _ c.requires c.loop-x.invariant c.loop-x-test.false
