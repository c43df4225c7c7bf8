use mathlib.Core.Path.{sym}
use Rattle.trie_check.proofs.Parts.{long}
use Rattle.word_list_write.proofs.Answers.{not_one, part_sound, answered, written}
use Rattle.word_list_write.proofs.write_image.Goals as goal

pub returns-then-not-is_dictionary-clause-value : goal.returns-then-not-is_dictionary-clause-value
returns-then-not-is_dictionary-clause-value c = not_one c.args.pool.now _ c.is_dictionary.ensures c.args.out.now c.if-not-is_dictionary.true

pub write_dictionary-requires : goal.write_dictionary-requires
write_dictionary-requires c =
    part_sound c.args.pool.now _ c.is_dictionary.ensures c.args.out.now c.if-not-is_dictionary.false _ c.capacity-cells.ensures

pub returns-clause-value : goal.returns-clause-value
returns-clause-value c =
    answered c.args.pool.now _ c.is_dictionary.ensures c.args.out.now c.if-not-is_dictionary.false _ c.capacity-cells.ensures
    c.write_dictionary.result c.write_dictionary.ensures.value

pub returns-clause-out_after : goal.returns-clause-out_after
returns-clause-out_after c =
    written c.args.pool.now _ c.is_dictionary.ensures c.args.out.now c.if-not-is_dictionary.false _ c.capacity-cells.ensures
    c.write_dictionary.result c.write_dictionary.ensures.out_after
