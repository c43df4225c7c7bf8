use native.Mathlib.Omega.{arith}
use mathlib.Core.Path.{sym, ◌∙◌}
use Rattle.trie_plants.proofs.Parts.{half_low}
use Rattle.newmm_plants_many.proofs.Views.{no_plants, half_inside, readable_plant, seen_plant}
use Rattle.newmm_plants_many.proofs.dictionary_of.Goals as goal

pub returns-then-not-is_plants-clause-means : goal.returns-then-not-is_plants-clause-means
returns-then-not-is_plants-clause-means c = no_plants c.args.plant c.args.pool.now (sym c.is_plants.ensures ∙ c.if-not-is_plants.true)

pub offset_bounds-pool-a : goal.offset_bounds-pool-a
offset_bounds-pool-a c = omega (arith, c.half_at-a.ensures, half_low c.args.plant)

pub slice_bounds-result-count : goal.slice_bounds-result-count
slice_bounds-result-count c =
    omega (arith, half_inside c.args.plant c.args.pool.now c.capacity-cells.result c.capacity-cells.ensures c.half_at-a.result c.half_at-a.ensures (sym c.is_plants.ensures ∙ c.if-not-is_plants.false))

pub slice_bounds-result-start : goal.slice_bounds-result-start
slice_bounds-result-start c =
    omega (arith, half_inside c.args.plant c.args.pool.now c.capacity-cells.result c.capacity-cells.ensures c.half_at-a.result c.half_at-a.ensures (sym c.is_plants.ensures ∙ c.if-not-is_plants.false))

pub returns-clause-means : goal.returns-clause-means
returns-clause-means c =
    seen_plant c.args.plant c.args.pool.now c.capacity-cells.result c.capacity-cells.ensures c.half_at-a.result c.half_at-a.ensures (sym c.is_plants.ensures ∙ c.if-not-is_plants.false)

pub returns-clause-readable : goal.returns-clause-readable
returns-clause-readable c =
    readable_plant c.args.plant c.args.pool.now c.capacity-cells.result c.capacity-cells.ensures c.half_at-a.result c.half_at-a.ensures (sym c.is_plants.ensures ∙ c.if-not-is_plants.false)
