use Rattle.newmm_many_turn.proofs.blank_all.Goals as goal

pub returns-else-not-blank : goal.returns-else-not-blank
returns-else-not-blank c = c.requires c.if-not-blank.false
