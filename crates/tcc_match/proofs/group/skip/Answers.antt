use native.Mathlib.Omega.{arith}
use mathlib.Core.Path.{sym, subst}
use mathlib.Core.Bool.{Bool, not}
use lib.Dec.{T}
use Rattle.tcc_rules.proofs.Classes.{seen}
use Rattle.tcc_rules.proofs.Skips.{class_there, skip_yes, skip_no}
use Rattle.tcc_match.proofs.group.skip.Goals as goal

pub overflow_add-result : goal.overflow_add-result
overflow_add-result g c =
    let l = g.C.Class in
    let t = subst (λ (b : Bool). T (not b)) (sym l.ends) tt in
    omega (arith, class_there g.C.Class.ranges c.args.text.now c.args.p t (seen g.C.Class.ranges c.at.ensures c.has.ensures c.if-has.true))

pub returns-then-has : goal.returns-then-has
returns-then-has g c =
    skip_yes g.C.Class.ranges _ _ (subst (λ (b : Bool). T (not b)) (sym g.C.Class.ends) tt) (seen g.C.Class.ranges c.at.ensures c.has.ensures c.if-has.true)

pub returns : goal.returns
returns g c = skip_no g.C.Class.ranges _ _ (seen g.C.Class.ranges c.at.ensures c.has.ensures c.if-has.false)
