use mathlib.Core.Path.{sym, ◌∙◌}
use Rattle.trie_check.proofs.Parts.{long, readable}
use Rattle.newmm_many.proofs.Pools.{no_pool, seen_pool}
use Rattle.newmm_many.proofs.dictionary_in.Goals as goal

pub returns-then-not-is_dictionary-clause-means : goal.returns-then-not-is_dictionary-clause-means
returns-then-not-is_dictionary-clause-means c = no_pool c.args.pool.now (sym c.is_dictionary.ensures ∙ c.if-not-is_dictionary.true)

pub slice_bounds-result-end : goal.slice_bounds-result-end
slice_bounds-result-end c = sym (long c.args.pool.now c.capacity-cells.result c.capacity-cells.ensures)

pub returns-clause-means : goal.returns-clause-means
returns-clause-means c =
    seen_pool c.args.pool.now c.capacity-cells.result c.capacity-cells.ensures (sym c.is_dictionary.ensures ∙ c.if-not-is_dictionary.false)

pub returns-clause-readable : goal.returns-clause-readable
returns-clause-readable c =
    readable c.args.pool.now c.capacity-cells.result c.capacity-cells.ensures (sym c.is_dictionary.ensures ∙ c.if-not-is_dictionary.false)
