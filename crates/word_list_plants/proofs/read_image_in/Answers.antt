use mathlib.Core.Path.{refl}
use Rattle.word_list_plants.proofs.Answers.{not_one, limit_at, starts, roomy, answered, after}
use Rattle.word_list_plants.proofs.read_image_in.Goals as goal

pub returns-then-not-is_plants-clause-value : goal.returns-then-not-is_plants-clause-value
returns-then-not-is_plants-clause-value c =
    not_one c.args.plant c.args.pool.now c.args.image.now _ c.is_plants.ensures c.if-not-is_plants.true

pub bounds-pool-a : goal.bounds-pool-a
bounds-pool-a c =
    limit_at c.args.plant c.args.pool.now c.args.image.now _ c.is_plants.ensures c.if-not-is_plants.false _ c.half_at-a.ensures

pub slice_bounds-replace-count : goal.slice_bounds-replace-count
slice_bounds-replace-count c =
    starts c.args.plant c.args.pool.now c.args.image.now _ c.is_plants.ensures c.if-not-is_plants.false _ c.half_at-a.ensures
    _ refl _ c.capacity-cells.ensures

pub slice_bounds-replace-start : goal.slice_bounds-replace-start
slice_bounds-replace-start c =
    starts c.args.plant c.args.pool.now c.args.image.now _ c.is_plants.ensures c.if-not-is_plants.false _ c.half_at-a.ensures
    _ refl _ c.capacity-cells.ensures

pub replace-requires : goal.replace-requires
replace-requires c =
    roomy c.args.plant c.args.pool.now c.args.image.now _ c.is_plants.ensures c.if-not-is_plants.false _ c.half_at-a.ensures
    _ refl _ c.capacity-cells.ensures

pub returns-clause-value : goal.returns-clause-value
returns-clause-value c =
    answered c.args.plant c.args.pool.now c.args.image.now _ c.is_plants.ensures c.if-not-is_plants.false _ c.half_at-a.ensures
    _ refl c.replace.ensures.value

pub returns-clause-plant_after : goal.returns-clause-plant_after
returns-clause-plant_after c =
    after c.args.plant c.args.pool.now c.args.image.now _ c.is_plants.ensures c.if-not-is_plants.false _ c.half_at-a.ensures
    _ refl _ c.capacity-cells.ensures c.replace.result c.replace.new.p c.replace.auto.p c.replace.ensures.after
