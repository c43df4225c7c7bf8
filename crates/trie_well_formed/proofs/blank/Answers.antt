use Rattle.trie_well_formed.proofs.Zeros.{zeros_more}
use Rattle.trie_well_formed.proofs.blank.Goals as goal

pub loop-i-preserved : goal.loop-i-preserved
loop-i-preserved c = zeros_more c.loop-i.invariant
