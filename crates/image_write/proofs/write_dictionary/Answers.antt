use mathlib.Core.Path.{◌∙◌}
use Rattle.image_write.proofs.Writing.{laid_front}
use Rattle.image_write.proofs.write_dictionary.Goals as goal

pub returns-clause-out_after : goal.returns-clause-out_after
returns-clause-out_after c = c.fill_image.ensures ∙ laid_front _ c.args.out.now
