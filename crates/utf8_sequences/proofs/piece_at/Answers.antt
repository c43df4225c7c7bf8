use Rattle.utf8_sequences.proofs.Pieces.{room_1, room_2, room_3, room_4, is_1, is_2, is_3, is_4}
use borrow.Author.Rules.{rules}
use Rattle.utf8_sequences.proofs.piece_at.Goals as goal

pub bounds-s-at : goal.bounds-s-at
bounds-s-at c = room_1 c.args.s.now c.args.at c.requires

pub returns-then-a-lt128 : goal.returns-then-a-lt128
returns-then-a-lt128 c = is_1 c.args.s.now c.args.at c.requires _ c.from-a.ensures c.if-a-lt128.true

pub overflow_add-at : goal.overflow_add-at
overflow_add-at c =
    let h = room_2 c.args.s.now c.args.at c.requires _ c.from-a.ensures c.if-a-lt128.false in
    search rules

pub bounds-s-at-2 : goal.bounds-s-at-2
bounds-s-at-2 c = room_2 c.args.s.now c.args.at c.requires _ c.from-a.ensures c.if-a-lt128.false

pub returns-then-a-lt224 : goal.returns-then-a-lt224
returns-then-a-lt224 c =
    is_2 c.args.s.now c.args.at c.requires _ c.from-a.ensures c.if-a-lt128.false _
    c.from-b.ensures c.if-a-lt224.true

pub overflow_add-at-2 : goal.overflow_add-at-2
overflow_add-at-2 c =
    let h = room_3 c.args.s.now c.args.at c.requires _ c.from-a.ensures c.if-a-lt128.false c.if-a-lt224.false in
    search rules

pub bounds-s-at-3 : goal.bounds-s-at-3
bounds-s-at-3 c = room_3 c.args.s.now c.args.at c.requires _ c.from-a.ensures c.if-a-lt128.false c.if-a-lt224.false

pub returns-then-a-lt240 : goal.returns-then-a-lt240
returns-then-a-lt240 c =
    is_3 c.args.s.now c.args.at c.requires _ c.from-a.ensures c.if-a-lt128.false _ c.from-b.ensures
    c.if-a-lt224.false _ c.from-c.ensures c.if-a-lt240.true

pub overflow_add-at-3 : goal.overflow_add-at-3
overflow_add-at-3 c =
    let h = room_4 c.args.s.now c.args.at c.requires _ c.from-a.ensures c.if-a-lt128.false
    c.if-a-lt240.false in
    search rules

pub bounds-s-at-4 : goal.bounds-s-at-4
bounds-s-at-4 c = room_4 c.args.s.now c.args.at c.requires _ c.from-a.ensures c.if-a-lt128.false c.if-a-lt240.false

pub returns : goal.returns
returns c =
    is_4 c.args.s.now c.args.at c.requires _ c.from-a.ensures c.if-a-lt128.false _ c.from-b.ensures
    c.if-a-lt224.false _ c.from-c.ensures c.if-a-lt240.false _ c.from-d.ensures
