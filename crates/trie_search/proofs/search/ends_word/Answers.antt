use Rattle.trie_search.proofs.Walking.{reads_mark}
use Rattle.trie_search.proofs.search.ends_word.Goals as goal

pub returns : goal.returns
returns c = reads_mark c.args.p.now c.args.i c.requires.0
