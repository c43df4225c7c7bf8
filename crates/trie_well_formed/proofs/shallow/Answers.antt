use mathlib.Core.Path.{refl, ◌∙◌}
use native.Mathlib.Omega.{arith}
use Rattle.trie_node.proofs.Decide.{granted}
use Rattle.trie_well_formed.proofs.Whole.{level_on, level_done, stay, ends_start}
use Rattle.trie_well_formed.proofs.shallow.Goals as goal

pub loop-level-init : goal.loop-level-init
loop-level-init c = record { upto = omega arith; fits = c.requires.0.some; is = ends_start _ _ }

pub returns-then-n-e : goal.returns-then-n-e
returns-then-n-e c =
    granted (stay c.args.p.now c.args.n 255 c.loop-level._level c.loop-level.invariant.upto
    (c.loop-level.invariant.is ∙ omega (arith, c.loop-level.invariant.fits, c.if-n-e.true)))

pub loop-level-preserved : goal.loop-level-preserved
loop-level-preserved c =
    level_on c.args.p.now c.args.n _ _ _ c.requires.0 c.loop-level.invariant
    c.loop-level-test.true c.if-n-e.false refl

pub returns : goal.returns
returns c = level_done c.args.p.now c.args.n _ _ c.loop-level.invariant c.loop-level-test.false
