use Rattle.tcc_engine.proofs.Classes.{none_there, by_first, by_second, by_third}
use Rattle.tcc_engine.proofs.Engine.in_class.Goals as goal

pub returns-then-text-p : goal.returns-then-text-p
returns-then-text-p c = none_there c.args.self.classes.now c.args.number c.args.text.now c.args.p c.if-text-p.true

pub returns-then-in_range : goal.returns-then-in_range
returns-then-in_range c =
    by_first c.args.self.classes.now c.args.number c.args.text.now c.args.p c.if-text-p.false
    c.in_range.ensures c.if-in_range.true

pub returns-then-in_range-2 : goal.returns-then-in_range-2
returns-then-in_range-2 c =
    by_second c.args.self.classes.now c.args.number c.args.text.now c.args.p c.if-text-p.false
    c.in_range.ensures c.if-in_range.false c.in_range-2.ensures c.if-in_range-2.true

pub returns : goal.returns
returns c =
    by_third c.args.self.classes.now c.args.number c.args.text.now c.args.p c.if-text-p.false
    c.in_range.ensures c.if-in_range.false c.in_range-2.ensures c.if-in_range-2.false c.in_range-3.ensures
