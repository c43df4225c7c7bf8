use mathlib.Core.Path.{refl, sym, ◌∙◌}
use native.Mathlib.Omega.{arith}
use borrow.Author.Tests.{eqb-true}
use Rattle.utf8_sequences.proofs.Quick.{thai_at}
use Rattle.utf8_sequences.proofs.thai_at.Goals.{then-s-at, else-s-at}
use Rattle.utf8_sequences.proofs.thai_at.Goals as goal

pub returns-then-s-at-eq92 : goal.returns-then-s-at-eq92
returns-then-s-at-eq92 c =
    elim c.if-s-at.branch [
      | then-s-at w ↦
          λ h. thai_at c.args.s.now c.args.at _ _ refl refl (omega (arith, c.requires)) w.if-s-at.true
          (eqb-true _ _ (sym w.value-is ∙ c.if-s-at-eq92.true)) (sym c.is_trail.ensures ∙ h)
      | else-s-at w ↦ absurd (w.if-s-at.false (eqb-true _ _ (sym w.value-is ∙ c.if-s-at-eq92.true)))
    ]
