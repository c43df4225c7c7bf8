use native.Mathlib.Omega.{arith}
use mathlib.Core.Path.{refl, sym, ◌∙◌}
use Rattle.tcc_rules.proofs.Alone.{alone}
use Rattle.tcc_match.proofs.matcher.cluster_end.Goals as goal

pub from_consonant-requires : goal.from_consonant-requires
from_consonant-requires c = (c.requires, (((sym c.is_consonant.ensures ∙ c.if-is_consonant.true), refl), tt))

pub returns-then-is_consonant : goal.returns-then-is_consonant
returns-then-is_consonant c = c.from_consonant.ensures

pub from_e-requires : goal.from_e-requires
from_e-requires c = (c.requires, (c.if-x-eq-SARA_E.true, tt))

pub returns-then-x-eq-SARA_E : goal.returns-then-x-eq-SARA_E
returns-then-x-eq-SARA_E c = c.from_e.ensures

pub from_ae-requires : goal.from_ae-requires
from_ae-requires c = (c.requires, (c.if-x-eq-SARA_AE.true, tt))

pub returns-then-x-eq-SARA_AE : goal.returns-then-x-eq-SARA_AE
returns-then-x-eq-SARA_AE c = c.from_ae.ensures

pub from_o-requires : goal.from_o-requires
from_o-requires c = (c.requires, (c.if-x-eq-SARA_O.true, tt))

pub returns-then-x-eq-SARA_O : goal.returns-then-x-eq-SARA_O
returns-then-x-eq-SARA_O c = c.from_o.ensures

pub from_ai-requires : goal.from_ai-requires
from_ai-requires c = (c.requires, (((sym c.is_sara_ai.ensures ∙ c.if-is_sara_ai.true), refl), tt))

pub returns-then-is_sara_ai : goal.returns-then-is_sara_ai
returns-then-is_sara_ai c = c.from_ai.ensures

pub overflow_add-result : goal.overflow_add-result
overflow_add-result c = omega (arith, c.requires)

pub returns : goal.returns
returns c =
    alone c.args.text.now c.args.p c.requires (sym c.is_consonant.ensures ∙ c.if-is_consonant.false)
    c.if-x-eq-SARA_E.false c.if-x-eq-SARA_AE.false c.if-x-eq-SARA_O.false (sym c.is_sara_ai.ensures ∙ c.if-is_sara_ai.false)
