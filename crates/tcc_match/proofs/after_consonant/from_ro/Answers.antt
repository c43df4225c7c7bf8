use native.Mathlib.Omega.{arith}
use mathlib.Core.Path.{sym, ◌∙◌}
use Rattle.tcc_rules.specs.Rules.{consonant}
use Rattle.tcc_rules.proofs.Classes.{seen, unlike}
use Rattle.tcc_rules.proofs.StartsConsonant.{ro_all, ro_2, ro_3, ro_4, ro_5, ro_6}
use Rattle.tcc_match.proofs.after_consonant.from_ro.Goals as goal

pub overflow_add-p : goal.overflow_add-p
overflow_add-p c = omega (arith, c.requires.0)

pub overflow_add-p-then-at-ne-RO_RUA : goal.overflow_add-p-then-at-ne-RO_RUA
overflow_add-p-then-at-ne-RO_RUA c = omega (arith, c.requires.0)

pub returns-then-at-ne-RO_RUA : goal.returns-then-at-ne-RO_RUA
returns-then-at-ne-RO_RUA c =
    c.group_k.ensures ∙ ro_2 c.args.text.now c.args.p c.requires
    (unlike 0xE23 c.at.ensures c.if-at-ne-RO_RUA.true)

pub overflow_add-p-2 : goal.overflow_add-p-2
overflow_add-p-2 c = omega (arith, c.requires.0)

pub overflow_add-p-then-not-is_consonant : goal.overflow_add-p-then-not-is_consonant
overflow_add-p-then-not-is_consonant c = omega (arith, c.requires.0)

pub returns-then-not-is_consonant : goal.returns-then-not-is_consonant
returns-then-not-is_consonant c =
    c.group_k-then-not-is_consonant.ensures ∙ ro_3 c.args.text.now c.args.p c.requires (sym c.at.ensures ∙ c.if-at-ne-RO_RUA.false)
    (seen consonant c.at-2.ensures c.is_consonant.ensures c.if-not-is_consonant.true)

pub overflow_add-p-3 : goal.overflow_add-p-3
overflow_add-p-3 c = omega (arith, c.requires.0)

pub overflow_add-p-then-at-ne-THANTHAKHAT : goal.overflow_add-p-then-at-ne-THANTHAKHAT
overflow_add-p-then-at-ne-THANTHAKHAT c = omega (arith, c.requires.0)

pub returns-then-at-ne-THANTHAKHAT : goal.returns-then-at-ne-THANTHAKHAT
returns-then-at-ne-THANTHAKHAT c =
    c.group_k-then-at-ne-THANTHAKHAT.ensures ∙ ro_4 c.args.text.now c.args.p c.requires (sym c.at.ensures ∙ c.if-at-ne-RO_RUA.false)
    (seen consonant c.at-2.ensures c.is_consonant.ensures c.if-not-is_consonant.false)
    (unlike 0xE4C c.at-3.ensures c.if-at-ne-THANTHAKHAT.true)

pub overflow_add-p-4 : goal.overflow_add-p-4
overflow_add-p-4 c = omega (arith, c.requires.0)

pub overflow_add-p-then-at-ne-SPACE : goal.overflow_add-p-then-at-ne-SPACE
overflow_add-p-then-at-ne-SPACE c = omega (arith, c.requires.0)

pub returns-then-at-ne-SPACE : goal.returns-then-at-ne-SPACE
returns-then-at-ne-SPACE c =
    c.group_k-then-at-ne-SPACE.ensures ∙ ro_5 c.args.text.now c.args.p c.requires
    (sym c.at.ensures ∙ c.if-at-ne-RO_RUA.false)
    (seen consonant c.at-2.ensures c.is_consonant.ensures c.if-not-is_consonant.false)
    (sym c.at-3.ensures ∙ c.if-at-ne-THANTHAKHAT.false) (unlike 0x20 c.at-4.ensures c.if-at-ne-SPACE.true)

pub overflow_add-p-5 : goal.overflow_add-p-5
overflow_add-p-5 c = omega (arith, c.requires.0)

pub overflow_add-p-then-at-ne-MAITAIKHU : goal.overflow_add-p-then-at-ne-MAITAIKHU
overflow_add-p-then-at-ne-MAITAIKHU c = omega (arith, c.requires.0)

pub returns-then-at-ne-MAITAIKHU : goal.returns-then-at-ne-MAITAIKHU
returns-then-at-ne-MAITAIKHU c =
    c.group_k-then-at-ne-MAITAIKHU.ensures ∙ ro_6 c.args.text.now c.args.p c.requires
    (sym c.at.ensures ∙ c.if-at-ne-RO_RUA.false)
    (seen consonant c.at-2.ensures c.is_consonant.ensures c.if-not-is_consonant.false)
    (sym c.at-3.ensures ∙ c.if-at-ne-THANTHAKHAT.false) (sym c.at-4.ensures ∙ c.if-at-ne-SPACE.false)
    (unlike 0xE47 c.at-5.ensures c.if-at-ne-MAITAIKHU.true)

pub overflow_add-result : goal.overflow_add-result
overflow_add-result c = omega (arith, c.requires.0)

pub returns : goal.returns
returns c =
    ro_all c.args.text.now c.args.p c.requires (sym c.at.ensures ∙ c.if-at-ne-RO_RUA.false)
    (seen consonant c.at-2.ensures c.is_consonant.ensures c.if-not-is_consonant.false)
    (sym c.at-3.ensures ∙ c.if-at-ne-THANTHAKHAT.false) (sym c.at-4.ensures ∙ c.if-at-ne-SPACE.false)
    (sym c.at-5.ensures ∙ c.if-at-ne-MAITAIKHU.false)
