use lib.ListN.{length}
use Rattle.trie_change.proofs.remove.+remove_word.Given as goal

abbrev pub decreases-remove_word : goal.decreases-remove_word
decreases-remove_word l = length l.w.now
