use mathlib.Core.Path.{sym, ◌∙◌}
use Rattle.newmm_word_step.proofs.Steps.{no_more, found_child, flag_index, unmarked_part, unended_part, whole_word}
use Rattle.newmm_word_step.proofs.word_step.Goals as goal

pub ends_word-requires : goal.ends_word-requires
ends_word-requires c = found_child c.requires c.find_child.ensures c.in-Some.is

pub returns-then-not-ends_word : goal.returns-then-not-ends_word
returns-then-not-ends_word c =
    unmarked_part c.requires c.find_child.ensures c.in-Some.is
    (sym c.ends_word.ensures ∙ c.if-not-ends_word.true)

pub bounds-flags-e : goal.bounds-flags-e
bounds-flags-e c = flag_index c.requires c.find_child.ensures c.in-Some.is

pub returns-then-flags-e-eq0 : goal.returns-then-flags-e-eq0
returns-then-flags-e-eq0 c = unended_part c.requires c.find_child.ensures c.in-Some.is c.if-flags-e-eq0.true

pub returns-in_default : goal.returns-in_default
returns-in_default c = λ b w. no_more c.requires w _ c.find_child.ensures c.in_default.is

pub returns : goal.returns
returns c =
    whole_word c.requires c.find_child.ensures c.in-Some.is
    (sym c.ends_word.ensures ∙ c.if-not-ends_word.false) c.if-flags-e-eq0.false
