-- Where the group of an alternative's items starts. Assumes nothing.
use Prim.Native.Nat.{ℕ, suc, ◌-◌, ◌%◌, ◌≤◌}
use native.Mathlib.Omega.{arith}
use mathlib.Core.Path.{◌≡◌, refl, ◌∙◌, ap}
use mathlib.Core.Bool.{Bool, true, false, cond, not}
use mathlib.Core.List.{List, [], ◌∷◌}
use lib.ListN.{length, take, drop, length-take}
use lib.Dec.{eqb}
use Rattle.std.specs.List.{take_while}
use Rattle.lists.specs.Scans.{leading}
use Rattle.lists.proofs.Scans.{leading_counted}
use Rattle.tcc_engine.specs.Tables.{in_group}
use Rattle.tcc_engine.specs.inner.Trying.{part, ungrouped, group_start}

one_more : (t : Bool) {m n : ℕ} → m ≡ n → cond t (suc m) 0 ≡ cond (not t) 0 (suc n)
one_more true h = ap suc h
one_more false h = refl

ungrouped_leading : (xs : List ℕ) → leading (λ (x : ℕ). eqb (x % 16) 0) xs ≡ ungrouped xs
unfolding ungrouped leading
ungrouped_leading [] = refl
ungrouped_leading (x ∷ xs) = one_more (eqb (x % 16) 0) (ungrouped_leading xs)

-- the items before the group, as they are counted
pub ungrouped_counted : (xs : List ℕ) → length (take_while (λ (x : ℕ). eqb (x % 16) 0) xs) ≡ ungrouped xs
ungrouped_counted xs = leading_counted (λ (x : ℕ). eqb (x % 16) 0) xs ∙ ungrouped_leading xs

few : (l : List ℕ) → ungrouped l ≤ length l
unfolding ungrouped
few [] = omega arith
few (x ∷ xs) = go (in_group x) (few xs)
  where
    go : (t : Bool) → ungrouped xs ≤ length xs → cond t 0 (suc (ungrouped xs)) ≤ suc (length xs)
    go true h = omega arith
    go false h = omega arith

pub group_inside : (row : List ℕ) (a e : ℕ) → a ≤ e → group_start row a e ≤ e
unfolding part
group_inside row a e h = omega (arith, few (take (e - a) (drop a row)), length-take (e - a) (drop a row))
