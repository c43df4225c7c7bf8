use native.Mathlib.Omega.{arith}
use Rattle.trie_search.proofs.Walking.{empty, step, ended}
use Rattle.trie_search.proofs.search.mark_of.Goals as goal

pub returns-then-is_empty : goal.returns-then-is_empty
returns-then-is_empty c = empty c.args.p.now c.args.w.now (grind (arith, c.if-is_empty.ensures))

pub loop-x-preserved : goal.loop-x-preserved
loop-x-preserved c =
    step c.args.p.now c.args.w.now _ _ c.loop-x.invariant c.loop-x-test.true _ _ c.find_child.ensures c.in-Some.is

pub returns : goal.returns
returns c = ended c.args.p.now c.args.w.now _ _ c.loop-x.invariant (λ e. grind (arith, e, c.if-is_empty.ensures)) c.loop-x-test.false
