-- What the causes of an operation say of an accepted call, and of a refused one. Assumes nothing.
use Rattle.std.specs.Prelude.{Result, Ok, Err}
use Rattle.std.specs.Result.{IsErrAnd}
use Rattle.std.proofs.lemmas.Result.{err_from_is_err_and}
use Prim.Native.Nat.{ℕ, ◌≤◌, ◌<◌}
use native.Mathlib.Omega.{arith}
use mathlib.Core.Path.{◌≡◌, refl, sym, ap, ◌∙◌}
use mathlib.Core.Bool.{Bool, true, false, cond}
use mathlib.Core.List.{List, [], ◌∷◌, ◌++◌}
use borrow.Author.Tests.{lt-ltb, le-ltb}
use Rattle.refusal.specs.declared.Refusal.{Refusal}
use Rattle.refusal.specs.declared.Refusal.TheVariants.{OutputTooShort}
use Rattle.refusal.specs.Answers.{Cause, answer, output, out_cause}
pub use Rattle.refusal.specs.Firsts.{None}
use Rattle.refusal.proofs.Order.{not_both, refused_first, accepted_first}

-- what a `?` hands on is the refusal that it met
pub handed_on : {A : Type 0} {r : Result A Refusal} {e : Refusal} → IsErrAnd r (λ y. y ≡ e) → r ≡ Err e
handed_on {r = r} h = let p = err_from_is_err_and r h in p.1 ∙ ap Err p.2

pub none_of : (rs : List Cause) (n k : ℕ) → answer rs n ≡ Ok k → None rs
none_of [] n k h = tt
none_of (r ∷ rs) n k h = go r.holds refl h (none_of rs n k)
  where
    go : (b : Bool) → r.holds ≡ b → cond b (Err r.refusal) (answer rs n) ≡ Ok k → (answer rs n ≡ Ok k → None rs) → (r.holds ≡ false) × None rs
    go true e q ih = not_both (sym q)
    go false e q ih = (e, ih q)

-- an accepted call is accepted with whatever number the operation tells
pub again : (rs : List Cause) (n m : ℕ) {k : ℕ} → answer rs n ≡ Ok k → Ok m ≡ answer rs m
again [] n m h = refl
again (r ∷ rs) n m {k} h = go r.holds h (again rs n m)
  where
    go : (b : Bool) → cond b (Err r.refusal) (answer rs n) ≡ Ok k → (answer rs n ≡ Ok k → Ok m ≡ answer rs m) → Ok m ≡ cond b (Err r.refusal) (answer rs m)
    go true q ih = not_both (sym q)
    go false q ih = ih q

-- and a refused one is refused
pub still : (rs : List Cause) (n m : ℕ) {r : Refusal} → answer rs n ≡ Err r → Err r ≡ answer rs m
still [] n m h = not_both h
still (q ∷ rs) n m {r} h = go q.holds h (still rs n m)
  where
    go : (b : Bool) → cond b (Err q.refusal) (answer rs n) ≡ Err r → (answer rs n ≡ Err r → Err r ≡ answer rs m) → Err r ≡ cond b (Err q.refusal) (answer rs m)
    go true e ih = sym e
    go false e ih = ih e

-- ---- a refusal of the first causes, handed on as it is

pub handed : (rs qs : List Cause) (n m : ℕ) {a : Result ℕ Refusal} {r : Refusal} → a ≡ answer rs n → a ≡ Err r → a ≡ answer (rs ++ qs) m
handed rs qs n m is e = e ∙ sym (refused_first rs qs n m (sym is ∙ e))

pub handed_same : (rs : List Cause) (n m : ℕ) {a : Result ℕ Refusal} {r : Refusal} → a ≡ answer rs n → a ≡ Err r → a ≡ answer rs m
handed_same rs n m is e = e ∙ still rs n m (sym is ∙ e)

pub no_output : {a : Result ℕ Refusal} {r : Refusal} (written old : List ℕ) → a ≡ Err r → old ≡ output a written old
no_output written old e = sym (ap (λ (z : Result ℕ Refusal). output z written old) e)

-- ---- one cause more behind those before

pub cause_yes : (rs : List Cause) (r : Cause) (n m : ℕ) {k : ℕ} → answer rs n ≡ Ok k → r.holds ≡ true → Err r.refusal ≡ answer (rs ++ (r ∷ [])) m
cause_yes rs r n m h e = sym (accepted_first rs (r ∷ []) n m h ∙ ap (λ (b : Bool). cond b (Err r.refusal) (Ok m)) e)

pub cause_no : (rs : List Cause) (r : Cause) (n m : ℕ) {k : ℕ} → answer rs n ≡ Ok k → r.holds ≡ false → Ok m ≡ answer (rs ++ (r ∷ [])) m
cause_no rs r n m h e = sym (accepted_first rs (r ∷ []) n m h ∙ ap (λ (b : Bool). cond b (Err r.refusal) (Ok m)) e)

-- the number that the first causes accept with is kept
pub cause_kept : (rs : List Cause) (r : Cause) (n : ℕ) {k : ℕ} → answer rs n ≡ Ok k → r.holds ≡ false → Ok k ≡ answer (rs ++ (r ∷ [])) n
cause_kept rs r n h e = sym h ∙ sym (again rs n n h) ∙ cause_no rs r n n h e

-- ---- refusal 6 behind those before, q being the cells that were counted

pub out_short : (rs : List Cause) (needed room n m q : ℕ) {k : ℕ} → answer rs n ≡ Ok k → q ≡ needed → room < q
    → Err (OutputTooShort q) ≡ answer (rs ++ (out_cause needed room ∷ [])) m
out_short rs needed room n m q h e l =
    ap (λ (z : ℕ). Err (OutputTooShort z)) e ∙ cause_yes rs (out_cause needed room) n m h (lt-ltb room needed (omega arith))

pub out_fits : (rs : List Cause) (needed room n q : ℕ) {k : ℕ} → answer rs n ≡ Ok k → q ≡ needed → q ≤ room
    → Ok q ≡ answer (rs ++ (out_cause needed room ∷ [])) needed
out_fits rs needed room n q h e l = ap Ok e ∙ cause_no rs (out_cause needed room) n needed h (le-ltb room needed (omega arith))
