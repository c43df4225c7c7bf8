use Rattle.word_list_plants_write.proofs.Answers.{not_one, starts, part_sound, answered, written}
use Rattle.word_list_plants_write.proofs.write_image_in.Goals as goal

pub returns-then-not-is_plants-clause-value : goal.returns-then-not-is_plants-clause-value
returns-then-not-is_plants-clause-value c =
    not_one c.args.plant c.args.pool.now _ c.is_plants.ensures c.args.out.now c.if-not-is_plants.true

pub slice_bounds-write_dictionary-count : goal.slice_bounds-write_dictionary-count
slice_bounds-write_dictionary-count c =
    starts c.args.plant c.args.pool.now _ c.is_plants.ensures c.args.out.now c.if-not-is_plants.false _ c.capacity-cells.ensures _ c.half_at-a.ensures

pub slice_bounds-write_dictionary-start : goal.slice_bounds-write_dictionary-start
slice_bounds-write_dictionary-start c =
    starts c.args.plant c.args.pool.now _ c.is_plants.ensures c.args.out.now c.if-not-is_plants.false _ c.capacity-cells.ensures _ c.half_at-a.ensures

pub write_dictionary-requires : goal.write_dictionary-requires
write_dictionary-requires c =
    part_sound c.args.plant c.args.pool.now _ c.is_plants.ensures c.args.out.now c.if-not-is_plants.false _ c.capacity-cells.ensures _ c.half_at-a.ensures

pub returns-clause-value : goal.returns-clause-value
returns-clause-value c =
    answered c.args.plant c.args.pool.now _ c.is_plants.ensures c.args.out.now c.if-not-is_plants.false _ c.capacity-cells.ensures _ c.half_at-a.ensures
    c.write_dictionary.result c.write_dictionary.ensures.value

pub returns-clause-out_after : goal.returns-clause-out_after
returns-clause-out_after c =
    written c.args.plant c.args.pool.now _ c.is_plants.ensures c.args.out.now c.if-not-is_plants.false _ c.capacity-cells.ensures _ c.half_at-a.ensures
    c.write_dictionary.result c.write_dictionary.ensures.out_after
