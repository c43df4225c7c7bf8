use native.Mathlib.Omega.{arith}
use Rattle.utf8_sequences.proofs.Pieces.{room_e0, after_e0, is_e0}
use borrow.Author.Rules.{rules}
use Rattle.utf8_sequences.proofs.piece_of_e0.Goals as goal

pub overflow_add-at : goal.overflow_add-at
overflow_add-at c = let h = room_e0 c.args.s.now c.args.at c.requires.nonzero c.requires.at_value in search rules

pub bounds-s-at : goal.bounds-s-at
bounds-s-at c =
    let h = room_e0 c.args.s.now c.args.at c.requires.nonzero c.requires.at_value in
    search rules

pub overflow_add-at-2 : goal.overflow_add-at-2
overflow_add-at-2 c =
    let h = room_e0 c.args.s.now c.args.at c.requires.nonzero c.requires.at_value in
    search rules

pub bounds-s-at-2 : goal.bounds-s-at-2
bounds-s-at-2 c = room_e0 c.args.s.now c.args.at c.requires.nonzero c.requires.at_value

pub overflow_mul-result : goal.overflow_mul-result
overflow_mul-result c =
    let w = after_e0 c.args.s.now c.args.at c.requires.nonzero c.requires.at_value _ c.from-b.ensures _
    c.from-c.ensures in
    omega (arith, w.most)

pub overflow_add-result : goal.overflow_add-result
overflow_add-result c =
    let w = after_e0 c.args.s.now c.args.at c.requires.nonzero c.requires.at_value _ c.from-b.ensures _
    c.from-c.ensures in
    omega (arith, w.most, w.most')

pub overflow_sub-result : goal.overflow_sub-result
overflow_sub-result c =
    let w = after_e0 c.args.s.now c.args.at c.requires.nonzero c.requires.at_value _ c.from-b.ensures _
    c.from-c.ensures in
    omega (arith, w.least, w.least')

pub returns : goal.returns
returns c = is_e0 c.args.s.now c.args.at c.requires.nonzero c.requires.at_value _ c.from-b.ensures _ c.from-c.ensures
