-- The answer of causes that stand behind others. Assumes nothing.
use Rattle.std.specs.Prelude.{Ok, Err}
use Prim.Native.Nat.{ℕ}
use native.Mathlib.Omega.{arith}
use mathlib.Core.Path.{◌≡◌, refl, sym}
use mathlib.Core.Bool.{Bool, true, false, cond}
use mathlib.Core.List.{List, [], ◌∷◌, ◌++◌}
use Rattle.refusal.specs.declared.Refusal.{Refusal}
use Rattle.refusal.specs.Answers.{Cause, answer}

pub not_both : {P : Type 0} {n : ℕ} {r : Refusal} → Ok n ≡ Err r → P
not_both h = absurd (let z : ◌≡◌ {A = ℕ} 0 1 = cc in omega arith)

-- a refusal of the first causes is the answer
pub refused_first : (rs qs : List Cause) (n m : ℕ) {r : Refusal} → answer rs n ≡ Err r → answer (rs ++ qs) m ≡ Err r
refused_first [] qs n m h = not_both h
refused_first (q ∷ rs) qs n m {r} h = go (λ e. refused_first rs qs n m e) q.holds h
  where
    go : (answer rs n ≡ Err r → answer (rs ++ qs) m ≡ Err r) → (b : Bool) → cond b (Err q.refusal) (answer rs n) ≡ Err r → cond b (Err q.refusal) (answer (rs ++ qs) m) ≡ Err r
    go ih true e = e
    go ih false e = ih e

-- where the first causes accept, the later ones decide
pub accepted_first : (rs qs : List Cause) (n m : ℕ) {k : ℕ} → answer rs n ≡ Ok k → answer (rs ++ qs) m ≡ answer qs m
accepted_first [] qs n m h = refl
accepted_first (q ∷ rs) qs n m {k} h = go (λ e. accepted_first rs qs n m e) q.holds h
  where
    go : (answer rs n ≡ Ok k → answer (rs ++ qs) m ≡ answer qs m) → (b : Bool) → cond b (Err q.refusal) (answer rs n) ≡ Ok k → cond b (Err q.refusal) (answer (rs ++ qs) m) ≡ answer qs m
    go ih true e = not_both (sym e)
    go ih false e = ih e
