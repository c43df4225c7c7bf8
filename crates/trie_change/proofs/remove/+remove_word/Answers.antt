use native.Mathlib.Omega.{arith}
use Rattle.trie_change.proofs.Taking.{readable, cleared, lost, deeper, prunes, removed, length_tail, inside_remove}
use Rattle.trie_change.proofs.remove.+remove_word.Goals as goal

pub overflow_mul-p : goal.overflow_mul-p
overflow_mul-p t c = let i = inside_remove _ _ _ c.requires in omega arith

pub overflow_add-p : goal.overflow_add-p
overflow_add-p t c = let i = inside_remove _ _ _ c.requires in omega arith

pub offset_bounds-p-b : goal.offset_bounds-p-b
offset_bounds-p-b t c = let i = inside_remove _ _ _ c.requires in omega arith

pub bounds-p-b : goal.bounds-p-b
bounds-p-b t c = let i = inside_remove _ _ _ c.requires in omega arith

pub returns-then-w-eq0 : goal.returns-then-w-eq0
returns-then-w-eq0 t c = cleared c.args.p.now c.args.w.now c.args.b c.requires c.if-w-eq0.true

pub bounds-w-0 : goal.bounds-w-0
bounds-w-0 t c = omega (arith, c.if-w-eq0.false)

pub find_child-requires : goal.find_child-requires
find_child-requires t c = readable _ _ _ c.requires

pub returns-in_default : goal.returns-in_default
returns-in_default t c =
    lost c.args.p.now c.args.w.now c.args.b _ c.requires c.if-w-eq0.false c.find_child.ensures
    c.in_default.is

pub slice_bounds-remove_word-count : goal.slice_bounds-remove_word-count
slice_bounds-remove_word-count t c = omega (arith, c.if-w-eq0.false)

pub slice_bounds-remove_word-start : goal.slice_bounds-remove_word-start
slice_bounds-remove_word-start t c = omega (arith, c.if-w-eq0.false)

pub remove_word-requires : goal.remove_word-requires
remove_word-requires t c = (
  omega (arith, length_tail c.args.w.now 1, c.requires.past_root, c.if-w-eq0.false),
  deeper c.args.p.now
      c.args.w.now c.args.b _ _ c.requires c.find_child.ensures c.in-Some.is,
)

pub prune-requires : goal.prune-requires
prune-requires t c =
    prunes c.args.p.now c.args.w.now _ c.args.b _ _ c.requires c.if-w-eq0.false
    c.find_child.ensures c.in-Some.is c.remove_word.ensures

pub returns : goal.returns
returns t c =
    removed c.args.p.now c.args.w.now _ c.args.b _ _ c.requires c.if-w-eq0.false
    c.find_child.ensures c.in-Some.is c.remove_word.ensures _ c.prune.ensures
