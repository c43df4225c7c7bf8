-- The answer of an operation by its causes: the first that holds, or acceptance exactly if none
-- does. Assumes nothing.
use Rattle.std.specs.Prelude.{Result, Ok, Err}
use Prim.Native.Nat.{ℕ, ◌≤◌, ◌<◌}
use native.Mathlib.Omega.{arith}
use mathlib.Core.Path.{◌≡◌, refl, sym, ap, subst, ◌∙◌}
use mathlib.Core.Bool.{Bool, true, false, cond}
use mathlib.Core.List.{List, [], ◌∷◌}
use mathlib.Core.Logic.{inl, inr}
use Rattle.refusal.specs.declared.Refusal.{Refusal}
use Rattle.refusal.specs.Numbers.{number_of}
use Rattle.refusal.specs.Answers.{Cause, answer, numbers}
use Rattle.refusal.specs.Firsts.{None, First, Among, Above, Rising}
use Rattle.refusal.proofs.Order.{not_both, accepted_first}
use Rattle.refusal.proofs.Causes.{none_of, again}

-- ---- accepted exactly if none

pub accepted_if_none : (causes : List Cause) (n : ℕ) → None causes → answer causes n ≡ Ok n
accepted_if_none [] n h = refl
accepted_if_none (c ∷ cs) n h = ap (λ (b : Bool). cond b (Err c.refusal) (answer cs n)) h.0 ∙ accepted_if_none cs n h.1

-- A call is accepted exactly if no cause holds, and then with its number.
pub accepted_exactly_if_none : (causes : List Cause) (n : ℕ)
    → (None causes → answer causes n ≡ Ok n) × ((k : ℕ) → answer causes n ≡ Ok k → None causes × (k ≡ n))
accepted_exactly_if_none causes n = (
  accepted_if_none causes n,
  λ k h. (none_of causes n k h, same (sym h ∙ sym (again causes n n h))),
)
  where
    same : {k : ℕ} → ◌≡◌ {A = Result ℕ Refusal} (Ok k) (Ok n) → k ≡ n
    same e = cc

-- ---- the first that holds

refused_by_first : (causes : List Cause) (n : ℕ) (r : Refusal) → First causes r → answer causes n ≡ Err r
refused_by_first causes n r f =
    ap (λ (cs : List Cause). answer cs n) f.order ∙ accepted_first f.earlier (f.cause ∷ f.later) n n (accepted_if_none f.earlier n f.none)
    ∙ ap (λ (b : Bool). cond b (Err f.cause.refusal) (answer f.later n)) f.due ∙ ap Err (sym f.named)

first_of : (causes : List Cause) (n : ℕ) (r : Refusal) → answer causes n ≡ Err r → First causes r
first_of [] n r h = not_both h
first_of (c ∷ cs) n r h = go c.holds refl h (first_of cs n r)
  where
    same : ◌≡◌ {A = Result ℕ Refusal} (Err c.refusal) (Err r) → r ≡ c.refusal
    same e = cc

    go : (b : Bool) → c.holds ≡ b → cond b (Err c.refusal) (answer cs n) ≡ Err r → (answer cs n ≡ Err r → First cs r) → First (c ∷ cs) r
    go true e q ih = record { earlier = []; cause = c; later = cs; order = refl; none = tt; due = e; named = same q }
    go false e q ih =
        let f = ih q in
        record {
          earlier = c ∷ f.earlier;
          cause = f.cause;
          later = f.later;
          order = ap (λ (z : List Cause). c ∷ z) f.order;
          none = (e, f.none);
          due = f.due;
          named = f.named;
        }

-- A call is refused with r exactly if r is the refusal of the first cause that holds.
pub first_that_holds : (causes : List Cause) (n : ℕ) (r : Refusal)
    → (answer causes n ≡ Err r → First causes r) × (First causes r → answer causes n ≡ Err r)
first_that_holds causes n r = (first_of causes n r, refused_by_first causes n r)

-- ---- the lowest number that applies

differ : true ≡ false → ⊥
differ e = absurd (let z : ◌≡◌ {A = ℕ} 0 1 = cc in omega arith)

above_all : (m : ℕ) (causes : List Cause) (c : Cause) → Above m (numbers causes) → Among c causes → m < number_of c.refusal
above_all m [] c h a = absurd a
above_all m (d ∷ ds) c h (inl e) = subst (λ (z : Cause). m < number_of z.refusal) (sym e) h.0
above_all m (d ∷ ds) c h (inr a) = above_all m ds c h.1 a

-- Where the numbers of the causes rise, the refusal that is given has the lowest number of those
-- that hold.
pub lowest : (causes : List Cause) (n : ℕ) (r : Refusal) → Rising (numbers causes) → answer causes n ≡ Err r
    → (c : Cause) → Among c causes → c.holds ≡ true → number_of r ≤ number_of c.refusal
lowest [] n r up h c a t = absurd a
lowest (d ∷ ds) n r up h c a t = go d.holds refl h a (lowest ds n r up.1)
  where
    same : ◌≡◌ {A = Result ℕ Refusal} (Err d.refusal) (Err r) → r ≡ d.refusal
    same e = cc

    go : (b : Bool) → d.holds ≡ b → cond b (Err d.refusal) (answer ds n) ≡ Err r → Among c (d ∷ ds)
        → (answer ds n ≡ Err r → (c : Cause) → Among c ds → c.holds ≡ true → number_of r ≤ number_of c.refusal)
        → number_of r ≤ number_of c.refusal
    go true e q (inl i) ih = omega (arith, ap number_of (same q), ap (λ (z : Cause). number_of z.refusal) i)
    go true e q (inr i) ih = omega (arith, ap number_of (same q), above_all (number_of d.refusal) ds c up.0 i)
    go false e q (inl i) ih = absurd (let z : true ≡ false = sym t ∙ ap (λ (z : Cause). z.holds) i ∙ e in differ z)
    go false e q (inr i) ih = ih q c i t
