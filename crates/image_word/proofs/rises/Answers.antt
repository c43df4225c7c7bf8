use borrow.Author.Tests.{le-leb}
use mathlib.Core.Path.{◌∙◌}
use Rattle.image_word.proofs.Sharing.{rises_end, rises_longer, rises_less}
use Rattle.image_word.proofs.rises.Goals as goal

pub returns-then-w-l : goal.returns-then-w-l
returns-then-w-l c = rises_end c.args.v.now c.args.w.now c.args.l c.requires c.if-w-l.true

pub returns-then-v-l : goal.returns-then-v-l
returns-then-v-l c = le-leb _ _ c.if-v-l.true ∙ rises_longer c.args.v.now c.args.w.now c.args.l c.requires c.if-w-l.false c.if-v-l.true

pub returns-else-v-l : goal.returns-else-v-l
returns-else-v-l c = rises_less c.args.v.now c.args.w.now c.args.l c.requires c.if-w-l.false c.if-v-l.false
