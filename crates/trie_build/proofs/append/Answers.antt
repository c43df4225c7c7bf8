use Rattle.trie_build.proofs.Appended.{going_none, going_next, spot, end_here, put_here}
use native.Mathlib.Omega.{arith}
use borrow.Author.Rules.{rules}
use Rattle.trie_build.proofs.append.Goals as goal

pub loop-d-init : goal.loop-d-init
loop-d-init c = going_none c.requires

pub put_leaf-requires : goal.put_leaf-requires
put_leaf-requires c = spot c.loop-d.invariant c.loop-d-test.true c.requires.s c.requires.before c.requires.held c.requires.may

pub loop-d-preserved : goal.loop-d-preserved
loop-d-preserved c = going_next c.loop-d.invariant c.loop-d-test.true _ _ c.put_leaf.ensures.p_after c.put_leaf.ensures.next_after (spot c.loop-d.invariant c.loop-d-test.true c.requires.s c.requires.before c.requires.held c.requires.may).deep

pub overflow_mul-p : goal.overflow_mul-p
overflow_mul-p c = let e = end_here c.loop-d.invariant c.loop-d-test.false c.requires in search rules

pub overflow_add-p : goal.overflow_add-p
overflow_add-p c = let e = end_here c.loop-d.invariant c.loop-d-test.false c.requires in search rules

pub offset_bounds-p-end : goal.offset_bounds-p-end
offset_bounds-p-end c = let e = end_here c.loop-d.invariant c.loop-d-test.false c.requires in search rules

pub bounds-p-end : goal.bounds-p-end
bounds-p-end c = let e = end_here c.loop-d.invariant c.loop-d-test.false c.requires in omega (arith, e.some, e.inside)

pub returns : goal.returns
returns c = put_here c.loop-d.invariant c.loop-d-test.false c.requires
