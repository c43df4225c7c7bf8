-- An answer that is refused or accepted with 0. Assumes nothing.
use Rattle.std.specs.Prelude.{Result, Ok, Err}
use Rattle.refusal.specs.declared.Refusal.{Refusal}
use Prim.Native.Nat.{ℕ}
use mathlib.Core.Path.{◌≡◌, refl, sym, ◌∙◌, ap}
use mathlib.Core.Bool.{Bool, true, false, cond}
use mathlib.Core.List.{List}
use Rattle.refusal.specs.declared.Refusal.TheVariants.{FiguresFull}
use Rattle.figures_rules.specs.Figures.{full}
use Rattle.figures_rules.specs.Outcomes.{of_refused, refuses_text}
use Rattle.figures.specs.Calls.{join_answer, refused_answer}
use Rattle.host_telling.specs.Told.{Told, told, tells}

join_none : (a b : List ℕ) → (tells (join_answer a b)).count ≡ 0
join_none a b = go (full a b)
  where
    go : (t : Bool) → (tells (cond t (Err FiguresFull) (Ok 0))).count ≡ 0
    go true = refl
    go false = refl

refused_none : (a : List ℕ) (number : ℕ) → (tells (refused_answer a number)).count ≡ 0
refused_none a number = go (refuses_text number)
  where
    go : (t : Bool) → (tells (cond t (join_answer a (of_refused number)) (Ok 0))).count ≡ 0
    go true = join_none a (of_refused number)
    go false = refl

module _ {r : Result ℕ Refusal} (a : List ℕ) where
  pub joined_none : (b : List ℕ) → r ≡ join_answer a b → (tells r).count ≡ 0
  joined_none b e = ap (λ (x : Result ℕ Refusal). (tells x).count) e ∙ join_none a b

  pub fed_none : (number : ℕ) → r ≡ refused_answer a number → (tells r).count ≡ 0
  fed_none number e = ap (λ (x : Result ℕ Refusal). (tells x).count) e ∙ refused_none a number

-- the number that it is accepted with need not be told
pub only : (a : Result ℕ Refusal) (r n d : ℕ) → told r n d ≡ tells a → (tells a).count ≡ 0 → told r 0 d ≡ tells a
only a r n d e z = ap (λ (k : ℕ). told r k d) (sym (ap (λ (t : Told). t.count) e ∙ z)) ∙ e
