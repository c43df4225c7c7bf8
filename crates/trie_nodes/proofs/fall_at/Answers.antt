use mathlib.Core.Path.{◌∙◌}
use Rattle.trie_nodes.proofs.Cells.{fall_is, few}
use Rattle.trie_nodes.proofs.fall_at.Goals as goal

pub returns : goal.returns
returns c = record { value = c.falls_to.ensures ∙ fall_is c.args.p.now c.args.i c.requires.0; upper_bound = few _ _ c.falls_to.ensures }
