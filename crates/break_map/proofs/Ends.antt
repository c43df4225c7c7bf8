-- The ends of a call, tested from the left. Assumes nothing.
use Prim.Native.Nat.{ℕ, suc, ◌+◌, ◌≤◌, ◌<◌}
use native.Mathlib.Omega.{arith}
use mathlib.Core.Path.{◌≡◌, sym, ◌∙◌, ap}
use mathlib.Core.List.{List, ◌∷◌}
use lib.ListN.{length, get_or, drop, drop_of_length-le}
use lib.Seq.{drop-cons}
use Rattle.break_map_rules.specs.Ends.{right_from, first_wrong}
use Rattle.break_map_rules.proofs.Ends.{right_nil, right_yes, right_no}

-- the first i ends are right, and the last of them is `before`
pub record Right (n : ℕ) (ends : List ℕ) (before i : ℕ) : Type 0 where
  pub inside : i ≤ length ends
  pub rest : first_wrong n ends ≡ i + right_from n before (drop i ends)

pub right_none : (n : ℕ) (ends : List ℕ) → Right n ends 0 0
right_none n ends = record { inside = omega arith; rest = omega arith }

module _ {n : ℕ} {ends : List ℕ} {before i : ℕ} (r : Right n ends before i) where
  module _ (l : i < length ends) {e : ℕ} (is : e ≡ get_or ends i 0) where
    next : drop i ends ≡ e ∷ drop (i + 1) ends
    next = drop-cons ends i 0 l ∙ (let z : suc i ≡ i + 1 = omega arith in λ k. sym is k ∷ drop (z k) ends)

    pub right_more : before < e → e ≤ n → Right n ends e (i + 1)
    right_more h k =
        record { inside = omega arith; rest = omega (arith, r.rest, ap (right_from n before) next ∙ right_yes n before e (drop (i + 1) ends) h k) }

    pub right_stop : (before < e → e ≤ n → ⊥) → i ≡ first_wrong n ends
    right_stop h = omega (arith, r.rest, ap (right_from n before) next ∙ right_no n before e (drop (i + 1) ends) h)

pub right_all : {n : ℕ} {ends : List ℕ} {before i : ℕ} → Right n ends before i → length ends ≤ i → length ends ≡ first_wrong n ends
right_all {n} {ends} {before} {i} r l =
    omega (arith, r.inside, r.rest, ap (right_from n before) (drop_of_length-le ends l) ∙ right_nil n before)
