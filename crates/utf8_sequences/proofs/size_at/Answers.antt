use mathlib.Core.Path.{refl, sym, ◌∙◌}
use borrow.Author.Tests.{lt-ltb, le-ltb, eq-eqb, ne_eqb}
use Rattle.utf8_sequences.proofs.Sizes.{read, too_short, few, low, high, is_two, no_third, is_three, last}
use Rattle.utf8_sequences.proofs.size_at.Goals as goal

pub returns-then-s-at : goal.returns-then-s-at
returns-then-s-at c =
    sym (too_short _ _ _ _ _ _ _ c.if-s-at.true) ∙ read c.args.s.now c.args.at c.requires
    c.lead-e.ensures refl

pub returns-then-size-lt2 : goal.returns-then-size-lt2
returns-then-size-lt2 c =
    sym (few _ _ _ _ _ _ _ (le-ltb _ _ c.if-s-at.false) (lt-ltb _ _ c.if-size-lt2.true)) ∙ read c.args.s.now
    c.args.at c.requires c.lead-e.ensures refl

pub returns-then-b-e : goal.returns-then-b-e
returns-then-b-e c =
    sym (low _ _ _ _ _ _ _ (le-ltb _ _ c.if-s-at.false) (le-ltb _ _ c.if-size-lt2.false) (lt-ltb _ _ c.if-b-e.true))
    ∙ read c.args.s.now c.args.at c.requires c.lead-e.ensures c.from-b.ensures

pub returns-then-e-b : goal.returns-then-e-b
returns-then-e-b c =
    sym (high _ _ _ _ _ _ _ (le-ltb _ _ c.if-s-at.false) (le-ltb _ _ c.if-size-lt2.false)
    (le-ltb _ _ c.if-b-e.false) (lt-ltb _ _ c.if-e-b.true)) ∙ read c.args.s.now c.args.at
    c.requires c.lead-e.ensures c.from-b.ensures

pub returns-then-size-eq2 : goal.returns-then-size-eq2
returns-then-size-eq2 c =
    sym (is_two _ _ _ _ _ _ _ (le-ltb _ _ c.if-s-at.false) (le-ltb _ _ c.if-size-lt2.false) (le-ltb _ _ c.if-b-e.false)
    (le-ltb _ _ c.if-e-b.false) (eq-eqb _ _ c.if-size-eq2.true)) ∙ read c.args.s.now c.args.at
    c.requires c.lead-e.ensures c.from-b.ensures

pub returns-then-not-is_trail : goal.returns-then-not-is_trail
returns-then-not-is_trail c =
    sym (no_third _ _ _ _ _ _ _ (le-ltb _ _ c.if-s-at.false) (le-ltb _ _ c.if-size-lt2.false) (le-ltb _ _ c.if-b-e.false)
    (le-ltb _ _ c.if-e-b.false) (ne_eqb _ _ c.if-size-eq2.false)
    (sym c.is_trail.ensures ∙ c.if-not-is_trail.true)) ∙ read c.args.s.now c.args.at
    c.requires c.lead-e.ensures c.from-b.ensures

pub returns-then-size-eq3 : goal.returns-then-size-eq3
returns-then-size-eq3 c =
    sym (is_three _ _ _ _ _ _ _ (le-ltb _ _ c.if-s-at.false) (le-ltb _ _ c.if-size-lt2.false)
    (le-ltb _ _ c.if-b-e.false) (le-ltb _ _ c.if-e-b.false) (ne_eqb _ _ c.if-size-eq2.false)
    (sym c.is_trail.ensures ∙ c.if-not-is_trail.false) (eq-eqb _ _ c.if-size-eq3.true)) ∙ read
    c.args.s.now c.args.at c.requires c.lead-e.ensures c.from-b.ensures

pub returns-then-not-is_trail-2 : goal.returns-then-not-is_trail-2
returns-then-not-is_trail-2 c =
    sym (last _ _ _ _ _ _ _ (le-ltb _ _ c.if-s-at.false) (le-ltb _ _ c.if-size-lt2.false) (le-ltb _ _ c.if-b-e.false)
    (le-ltb _ _ c.if-e-b.false) (ne_eqb _ _ c.if-size-eq2.false)
    (sym c.is_trail.ensures ∙ c.if-not-is_trail.false) (ne_eqb _ _ c.if-size-eq3.false) _
    (sym c.is_trail-2.ensures ∙ c.if-not-is_trail-2.true)) ∙ read c.args.s.now c.args.at
    c.requires c.lead-e.ensures c.from-b.ensures

pub returns : goal.returns
returns c =
    sym (last _ _ _ _ _ _ _ (le-ltb _ _ c.if-s-at.false) (le-ltb _ _ c.if-size-lt2.false) (le-ltb _ _ c.if-b-e.false)
    (le-ltb _ _ c.if-e-b.false) (ne_eqb _ _ c.if-size-eq2.false)
    (sym c.is_trail.ensures ∙ c.if-not-is_trail.false) (ne_eqb _ _ c.if-size-eq3.false) _
    (sym c.is_trail-2.ensures ∙ c.if-not-is_trail-2.false)) ∙ read c.args.s.now c.args.at
    c.requires c.lead-e.ensures c.from-b.ensures
