use native.Mathlib.Omega.{arith}
use mathlib.Core.Path.{sym, ◌∙◌, ap}
use Rattle.tcc_rules.specs.Rules.{is, consonant, d_or_i}
use Rattle.tcc_rules.specs.inner.Optional.{skipped}
use Rattle.tcc_rules.proofs.Classes.{is_yes, seen, unlike}
use Rattle.tcc_rules.proofs.Skips.{class_there}
use Rattle.tcc_rules.proofs.Tails.{k_none, k_mark, k_no_mark}
use Rattle.tcc_match.proofs.group.group_k.Goals as goal

pub returns-then-unmarked : goal.returns-then-unmarked
returns-then-unmarked c = c.unmarked.ensures c.if-unmarked.true

pub returns-then-not-is_consonant : goal.returns-then-not-is_consonant
returns-then-not-is_consonant c =
    let a = c.args in
    k_none a.text.now a.p (seen consonant c.at.ensures c.is_consonant.ensures c.if-not-is_consonant.true)

pub overflow_add-p : goal.overflow_add-p
overflow_add-p c =
    let a = c.args in
    omega (
      arith,
      class_there consonant a.text.now a.p tt
          (seen consonant c.at.ensures c.is_consonant.ensures c.if-not-is_consonant.false),
    )

pub overflow_add-result : goal.overflow_add-result
overflow_add-result c =
    let a = c.args in
    omega (
      arith,
      class_there (is 0xE4C) a.text.now c.skip-q.result tt
          (is_yes _ 0xE4C (sym c.at-2.ensures ∙ c.if-at-eq-THANTHAKHAT.true)),
    )

pub returns-then-at-eq-THANTHAKHAT : goal.returns-then-at-eq-THANTHAKHAT
returns-then-at-eq-THANTHAKHAT c =
    let a = c.args in
    k_mark a.text.now a.p (c.skip-q.ensures ∙ ap (skipped d_or_i a.text.now) c.skip.ensures)
    (seen consonant c.at.ensures c.is_consonant.ensures c.if-not-is_consonant.false)
    (sym c.at-2.ensures ∙ c.if-at-eq-THANTHAKHAT.true)

pub returns : goal.returns
returns c =
    let a = c.args in
    k_no_mark a.text.now a.p (c.skip-q.ensures ∙ ap (skipped d_or_i a.text.now) c.skip.ensures)
    (seen consonant c.at.ensures c.is_consonant.ensures c.if-not-is_consonant.false)
    (unlike 0xE4C c.at-2.ensures c.if-at-eq-THANTHAKHAT.false)
