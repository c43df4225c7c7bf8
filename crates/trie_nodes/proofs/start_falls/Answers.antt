use Rattle.trie_nodes.proofs.Cells.{first_is, few}
use Rattle.trie_nodes.proofs.start_falls.Goals as goal

pub returns : goal.returns
returns c =
    record {
      value = first_is c.args.p.now c.args.s c.args.k _ _ c.requires.0 c.falls_to.ensures
          c.or_none.ensures;
      upper_bound = few _ _ c.falls_to.ensures;
    }
