use Rattle.word_list.proofs.Answers.{not_one, roomy, answered, after}
use Rattle.word_list.proofs.read_image.Goals as goal

pub returns-then-not-is_dictionary-clause-value : goal.returns-then-not-is_dictionary-clause-value
returns-then-not-is_dictionary-clause-value c = not_one c.args.pool.now c.args.image.now _ c.is_dictionary.ensures c.if-not-is_dictionary.true

pub replace-requires : goal.replace-requires
replace-requires c = roomy c.args.pool.now c.args.image.now _ c.is_dictionary.ensures c.if-not-is_dictionary.false _ c.capacity-room.ensures

pub returns-clause-value : goal.returns-clause-value
returns-clause-value c = answered c.args.pool.now c.args.image.now _ c.is_dictionary.ensures c.if-not-is_dictionary.false _ c.capacity-room.ensures c.replace.ensures.value

pub returns-clause-after : goal.returns-clause-after
returns-clause-after c =
    after c.args.pool.now c.args.image.now _ c.is_dictionary.ensures c.if-not-is_dictionary.false _ c.capacity-room.ensures
    c.replace.result c.replace.new.p c.replace.auto.p c.replace.ensures.after
