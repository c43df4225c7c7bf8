use mathlib.Core.Path.{refl}
use Rattle.tcc_engine.proofs.Finding.{trying_none, trying_next, trying_hit, trying_all}
use Rattle.tcc_engine.proofs.Engine.first_behind.Goals as goal

pub loop-k-init : goal.loop-k-init
loop-k-init c = trying_none c.args.text.now c.args.p c.args.past

pub returns-in-Some : goal.returns-in-Some
returns-in-Some c =
    trying_hit c.args.text.now c.args.p c.args.self.right c.loop-k.invariant c.loop-k-test.true
    c.match_alternative.ensures refl c.in-Some.is

pub loop-k-preserved : goal.loop-k-preserved
loop-k-preserved c =
    trying_next c.args.text.now c.args.p c.args.self.right c.loop-k.invariant c.loop-k-test.true
    c.match_alternative.ensures c.in_default.is

pub returns : goal.returns
returns c = trying_all c.args.text.now c.args.p c.args.self.right c.loop-k.invariant c.loop-k-test.false
