use mathlib.Core.Path.{sym, ap, ◌∙◌}
use Rattle.trie_pool.specs.Rules.{well_formed}
use Rattle.trie_check.proofs.Parts.{cells_are, long}
use Rattle.trie_check.proofs.is_dictionary.Goals as goal

pub slice_bounds-well_formed-end : goal.slice_bounds-well_formed-end
slice_bounds-well_formed-end c = sym (long c.args.pool.now _ c.capacity-cells.ensures)

pub returns : goal.returns
returns c = c.well_formed-2.ensures ∙ ap well_formed (cells_are c.args.pool.now _ c.capacity-cells.ensures)
