use mathlib.Core.Path.{refl}
use native.Mathlib.Omega.{arith}
use Rattle.trie_change.proofs.Taking.{inside_prune, stays_count, stays_mark, plucks, pruned}
use Rattle.trie_change.proofs.remove.prune.Goals as goal

pub overflow_mul-j : goal.overflow_mul-j
overflow_mul-j c = let i = inside_prune _ _ _ c.requires in omega arith

pub overflow_add-j : goal.overflow_add-j
overflow_add-j c = let i = inside_prune _ _ _ c.requires in omega arith

pub offset_bounds-p-j : goal.offset_bounds-p-j
offset_bounds-p-j c = let i = inside_prune _ _ _ c.requires in omega arith

pub bounds-p-j : goal.bounds-p-j
bounds-p-j c = let i = inside_prune _ _ _ c.requires in omega arith

pub returns-then-p-j-ne0 : goal.returns-then-p-j-ne0
returns-then-p-j-ne0 c = stays_count _ _ _ c.requires c.if-p-j-ne0.true

pub overflow_mul-j-2 : goal.overflow_mul-j-2
overflow_mul-j-2 c = let i = inside_prune _ _ _ c.requires in omega arith

pub overflow_add-j-2 : goal.overflow_add-j-2
overflow_add-j-2 c = let i = inside_prune _ _ _ c.requires in omega arith

pub offset_bounds-p-j-2 : goal.offset_bounds-p-j-2
offset_bounds-p-j-2 c = let i = inside_prune _ _ _ c.requires in omega arith

pub bounds-p-j-2 : goal.bounds-p-j-2
bounds-p-j-2 c = let i = inside_prune _ _ _ c.requires in omega arith

pub returns-then-p-j-ne0-2 : goal.returns-then-p-j-ne0-2
returns-then-p-j-ne0-2 c = stays_mark _ _ _ c.requires c.if-p-j-ne0-2.true

pub bounds-p-0 : goal.bounds-p-0
bounds-p-0 c = let i = inside_prune _ _ _ c.requires in omega arith

pub overflow_sub-n : goal.overflow_sub-n
overflow_sub-n c =
    let i = inside_prune _ _ _ c.requires in
    omega arith

pub pluck-requires : goal.pluck-requires
pluck-requires c = plucks _ _ _ _ c.requires refl c.if-p-j-ne0.false c.if-p-j-ne0-2.false

pub returns : goal.returns
returns c = pruned _ _ _ _ _ c.requires refl c.pluck.auto.p c.pluck.ensures
