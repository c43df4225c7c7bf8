use Rattle.trie_search.proofs.Walking.{tallied_root, tallied_more, tallied_on}
use Rattle.trie_search.proofs.search.count_words.Goals as goal

pub loop-i-init : goal.loop-i-init
loop-i-init c = tallied_root _ _ c.requires.some

pub loop-i-preserved-then-mark-eq0 : goal.loop-i-preserved-then-mark-eq0
loop-i-preserved-then-mark-eq0 c = tallied_on c.loop-i.invariant c.loop-i-test.true c.if-mark-eq0.true

pub loop-i-preserved : goal.loop-i-preserved
loop-i-preserved c = tallied_more c.loop-i.invariant c.loop-i-test.true c.if-mark-eq0.false
