use Rattle.trie_search.proofs.Walking.{count_step}
use Rattle.trie_search.proofs.search.missing.Goals as goal

pub loop-t-preserved : goal.loop-t-preserved
loop-t-preserved c =
    count_step c.args.p.now c.args.w.now _ _ c.loop-t.invariant c.loop-t-test.true _ _ c.find_child.ensures c.in-Some.is
