-- What an answer as it is told says of the causes. Assumes nothing.
use Rattle.std.specs.Prelude.{Result, Ok, Err}
use Prim.Native.Nat.{ℕ}
use native.Mathlib.Omega.{arith}
use mathlib.Core.Path.{◌≡◌, ap, ◌∙◌}
use mathlib.Core.List.{List}
use Rattle.newmm_rules.specs.declared.Ends.{Ends}
use Rattle.refusal.specs.declared.Refusal.{Refusal}
use Rattle.refusal.specs.Answers.{Cause, answer}
use Rattle.refusal.proofs.Causes.{again}
use Rattle.newmm_answers.specs.Answers.{accepted_with, told}

-- an answer with ends is an accepted one
pub told_ends : (x : Result ℕ Refusal) (k n e : ℕ) → told x k ≡ accepted_with n e → (x ≡ Ok n) × (k ≡ e)
told_ends (Ok m) k n e h =
    let q : ◌≡◌ {A = Ends} (record { ends = m; edges = k }) (record { ends = n; edges = e }) = cc in
    (ap Ok (ap (λ (x : Ends). x.ends) q), ap (λ (x : Ends). x.edges) q)
told_ends (Err r) k n e h = absurd (let z : ◌≡◌ {A = ℕ} 0 1 = cc in omega arith)

-- and one without is a refused one
pub told_refused : (x : Result ℕ Refusal) (k : ℕ) (r : Refusal) → told x k ≡ Err r → x ≡ Err r
told_refused (Ok m) k r h = absurd (let z : ◌≡◌ {A = ℕ} 0 1 = cc in omega arith)
told_refused (Err q) k r h = let e : q ≡ r = cc in ap Err e

-- the number that a call is accepted with is the one that it is asked for
pub accepted_is : (rs : List Cause) (n k : ℕ) → answer rs n ≡ Ok k → n ≡ k
accepted_is rs n k h = let q : Ok n ≡ Ok k = again rs n n h ∙ h in cc
