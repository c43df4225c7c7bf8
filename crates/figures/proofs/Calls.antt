-- What each call returns. Assumes nothing.
use Rattle.std.specs.Prelude.{Result, Ok, Err}
use Rattle.newmm_rules.specs.declared.Ends.{Ends}
use Rattle.refusal.specs.declared.Refusal.{Refusal}
use Prim.Native.Nat.{ℕ, ◌≤◌, ◌<◌}
use native.Mathlib.Omega.{arith}
use mathlib.Core.Path.{◌≡◌, refl, sym, ◌∙◌, ap}
use mathlib.Core.Bool.{Bool, true, false, cond, ◌&&◌}
use mathlib.Core.List.{List}
use lib.Dec.{leb}
use borrow.Author.Tests.{le-leb, lt-leb}
use Rattle.refusal.specs.declared.Refusal.TheVariants.{FiguresFull}
use Rattle.newmm_answers.specs.Calls.{Call, scratch_of}
use Rattle.newmm_reasons_answers.specs.Calls.{reasons_answer_of, pairs_of}
use Rattle.figures_rules.specs.Figures.{joined, full, after}
use Rattle.figures_rules.specs.Outcomes.{of_refused, refuses_text}
use Rattle.figures_rules.proofs.Filling.{after_full, after_joined}
use Rattle.figures.specs.Calls.{text_figures, Feeds, join_answer, Joins, FeedsRefused}

-- ---- a text

module _ (a : List ℕ) (c : Call) {one scratch : List ℕ} (is : one ≡ text_figures c) (s : scratch ≡ scratch_of c) where
  pub fed_full : {t : Bool} → t ≡ full a one → t ≡ true → Feeds a c (Err FiguresFull) a c.out scratch
  fed_full f y =
      let e : full a (text_figures c) ≡ true = ap (full a) (sym is) ∙ sym f ∙ y in (
        sym (ap (λ (b : Bool). cond {A = Result Ends Refusal} b (Err FiguresFull) (reasons_answer_of c)) e),
        (sym (after_full a (text_figures c) e), (sym (ap (λ (b : Bool). cond b c.out (pairs_of c)) e), s)),
      )

  pub fed_joined : {t : Bool} → t ≡ full a one → t ≡ false → {told : Result Ends Refusal} {new out : List ℕ} → told ≡ reasons_answer_of c → new ≡ joined a one → out ≡ pairs_of c
      → Feeds a c told new out scratch
  fed_joined f y w n o =
      let e : full a (text_figures c) ≡ false = ap (full a) (sym is) ∙ sym f ∙ y in (
        w ∙ sym (ap (λ (b : Bool). cond {A = Result Ends Refusal} b (Err FiguresFull) (reasons_answer_of c)) e),
        (n ∙ ap (joined a) is ∙ sym (after_joined a (text_figures c) e), (o ∙ sym (ap (λ (b : Bool). cond b c.out (pairs_of c)) e), s)),
      )

-- ---- a batch

module _ (a b : List ℕ) {t : Bool} (f : t ≡ full a b) where
  pub join_full : t ≡ true → Joins a b (Err FiguresFull) a
  join_full y =
      let e : full a b ≡ true = sym f ∙ y in (
        sym (ap (λ (z : Bool). cond {A = Result ℕ Refusal} z (Err FiguresFull) (Ok 0)) e),
        sym (after_full a b e),
      )

  pub join_joined : {new : List ℕ} → t ≡ false → new ≡ joined a b → Joins a b (Ok 0) new
  join_joined y n =
      let e : full a b ≡ false = sym f ∙ y in (
        sym (ap (λ (z : Bool). cond {A = Result ℕ Refusal} z (Err FiguresFull) (Ok 0)) e),
        n ∙ sym (after_joined a b e),
      )

-- ---- a refused text

module _ (a : List ℕ) (number : ℕ) where
  no_text : refuses_text number ≡ false → FeedsRefused a number (Ok 0) a
  no_text e = (
    sym (ap (λ (z : Bool). cond z (join_answer a (of_refused number)) (Ok 0)) e),
    sym (ap (λ (z : Bool). cond z (after a (of_refused number)) a) e),
  )

  pub below : number < 1 → FeedsRefused a number (Ok 0) a
  below h = no_text (ap (λ (z : Bool). z && leb number 6) (lt-leb 1 number h))

  pub above : 1 ≤ number → 6 < number → FeedsRefused a number (Ok 0) a
  above h l = no_text ((λ i. le-leb 1 number h i && lt-leb number 6 l i))

  pub a_text : 1 ≤ number → number ≤ 6 → {one new : List ℕ} {r : Result ℕ Refusal} → one ≡ of_refused number → Joins a one r new → FeedsRefused a number r new
  a_text h l {one} {new} {r} is j =
      let e : refuses_text number ≡ true = (λ i. le-leb 1 number h i && le-leb number 6 l i) in (
        j.0 ∙ ap (join_answer a) is ∙ sym (ap (λ (z : Bool). cond z (join_answer a (of_refused number)) (Ok 0)) e),
        j.1 ∙ ap (after a) is ∙ sym (ap (λ (z : Bool). cond z (after a (of_refused number)) a) e),
      )
