use native.Mathlib.Omega.{arith}
use mathlib.Core.Path.{refl, ◌∙◌}
use Rattle.tcc_engine.proofs.Classes.{only_there}
use Rattle.tcc_engine.proofs.Reading.{class_inside}
use Rattle.tcc_engine.proofs.Items.{no_item, group_or, needed_not_there, needed_there, optional_not_there, optional_with, optional_without}
use borrow.Author.Rules.{rules}
use Rattle.tcc_engine.proofs.Engine.+match_items.Goals as goal

pub returns-then-g-e : goal.returns-then-g-e
returns-then-g-e t c =
    no_item c.args.self.classes.now c.args.self.items.now c.args.text.now c.args.i c.args.g
    c.args.e c.args.p c.if-i-g.true c.if-g-e.true

pub match_items-group-requires : goal.match_items-group-requires
match_items-group-requires t c = (
  omega (arith, c.requires.1, c.if-i-g.true, c.if-g-e.false),
  (c.requires.1, omega arith, c.requires.2),
)

pub returns-then-i-g : goal.returns-then-i-g
returns-then-i-g t c =
    c.or.ensures
    ∙ group_or c.args.self.classes.now c.args.self.items.now c.args.text.now c.args.i c.args.g
    c.args.e c.args.p c.if-i-g.true (omega (arith, c.requires.1, c.if-g-e.false))
    (omega (arith, c.args.self.right.classed.many, c.requires.2)) c.match_items-group.ensures

pub offset_bounds-self-i : goal.offset_bounds-self-i
offset_bounds-self-i t c = omega (arith, c.requires.0, c.requires.1, c.requires.2, c.if-i-g.false)

pub bounds-self-i : goal.bounds-self-i
bounds-self-i t c = omega (arith, c.requires.0, c.requires.1, c.requires.2, c.if-i-g.false)

pub in_class-here-requires : goal.in_class-here-requires
in_class-here-requires t c =
    class_inside {i = c.args.i} c.args.self.right.classed
    (omega (arith, c.requires.0, c.requires.1, c.requires.2, c.if-i-g.false)) refl refl

pub returns-then-not-here : goal.returns-then-not-here
returns-then-not-here t c =
    needed_not_there c.args.self.classes.now c.args.self.items.now c.args.text.now c.args.i c.args.g
    c.args.e c.args.p (omega (arith, c.requires.0, c.if-i-g.false))
    (omega (arith, c.args.self.right.classed.many, c.requires.1, c.requires.2)) refl refl
    c.in_class-here.ensures c.if-item-eq0.true c.if-not-here.true

pub overflow_add-p : goal.overflow_add-p
overflow_add-p t c =
    let z = only_there _ c.args.text.now c.args.p c.in_class-here.ensures c.if-not-here.false in
    search rules

pub match_items-requires : goal.match_items-requires
match_items-requires t c = (
  omega (arith, c.requires.0, c.requires.1, c.if-i-g.false),
  (omega (arith, c.requires.0, c.if-i-g.false), c.requires.1, c.requires.2),
)

pub returns-then-item-eq0 : goal.returns-then-item-eq0
returns-then-item-eq0 t c =
    needed_there c.args.self.classes.now c.args.self.items.now c.args.text.now c.args.i c.args.g
    c.args.e c.args.p (omega (arith, c.requires.0, c.if-i-g.false))
    (omega (arith, c.args.self.right.classed.many, c.requires.1, c.requires.2)) refl refl
    c.in_class-here.ensures c.if-item-eq0.true c.if-not-here.false c.match_items.ensures

pub match_items-requires-then-not-here-2 : goal.match_items-requires-then-not-here-2
match_items-requires-then-not-here-2 t c = (
  omega (arith, c.requires.0, c.requires.1, c.if-i-g.false),
  (omega (arith, c.requires.0, c.if-i-g.false), c.requires.1, c.requires.2),
)

pub returns-then-not-here-2 : goal.returns-then-not-here-2
returns-then-not-here-2 t c =
    optional_not_there c.args.self.classes.now c.args.self.items.now c.args.text.now c.args.i
    c.args.g c.args.e c.args.p (omega (arith, c.requires.0, c.if-i-g.false))
    (omega (arith, c.args.self.right.classed.many, c.requires.1, c.requires.2)) refl refl
    c.in_class-here.ensures c.if-item-eq0.false c.if-not-here-2.true c.match_items-then-not-here-2.ensures

pub overflow_add-p-2 : goal.overflow_add-p-2
overflow_add-p-2 t c =
    let z = only_there _ c.args.text.now c.args.p c.in_class-here.ensures c.if-not-here-2.false in
    search rules

pub match_items-with-requires : goal.match_items-with-requires
match_items-with-requires t c = (
  omega (arith, c.requires.0, c.requires.1, c.if-i-g.false),
  (omega (arith, c.requires.0, c.if-i-g.false), c.requires.1, c.requires.2),
)

pub match_items-requires-in_default : goal.match_items-requires-in_default
match_items-requires-in_default t c = (
  omega (arith, c.requires.0, c.requires.1, c.if-i-g.false),
  (omega (arith, c.requires.0, c.if-i-g.false), c.requires.1, c.requires.2),
)

pub returns-in_default : goal.returns-in_default
returns-in_default t c =
    optional_without c.args.self.classes.now c.args.self.items.now c.args.text.now c.args.i
    c.args.g c.args.e c.args.p (omega (arith, c.requires.0, c.if-i-g.false))
    (omega (arith, c.args.self.right.classed.many, c.requires.1, c.requires.2)) refl refl
    c.in_class-here.ensures c.if-item-eq0.false c.if-not-here-2.false c.match_items-with.ensures
    c.in_default.is c.match_items-in_default.ensures

pub returns : goal.returns
returns t c =
    optional_with c.args.self.classes.now c.args.self.items.now c.args.text.now c.args.i
    c.args.g c.args.e c.args.p (omega (arith, c.requires.0, c.if-i-g.false))
    (omega (arith, c.args.self.right.classed.many, c.requires.1, c.requires.2)) refl refl
    c.in_class-here.ensures c.if-item-eq0.false c.if-not-here-2.false c.match_items-with.ensures
    c.in-Some.is
