-- How many cells pass a test, and those that pass it. Assumes nothing.
use Rattle.std.proofs.Common.{ℕ, suc, ◌≡◌, Bool, true, false, cond, List, [], ◌∷◌, length, refl, ap}
use Rattle.std.specs.List.{take_while}
use Rattle.std.proofs.lemmas.List.Sums.{take_while-cons}
use Rattle.lists.specs.Scans.{leading}

pub leading_is : (p : ℕ → Bool) (xs : List ℕ) → leading p xs ≡ length (take_while p xs)
unfolding leading
leading_is p [] = refl
leading_is p (x ∷ xs) = rw (take_while-cons p x xs) (go (leading_is p xs) (p x))
  where
    go : leading p xs ≡ length (take_while p xs) → (b : Bool) → cond b (suc (leading p xs)) 0 ≡ length (cond b (x ∷ take_while p xs) [])
    go ih true = ap suc ih
    go ih false = refl
