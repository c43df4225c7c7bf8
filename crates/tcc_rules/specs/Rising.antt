-- Ends that rise to n.
use Rattle.std.specs.Prelude.{ℕ, ◌≤◌, ◌<◌, List, [], ◌∷◌}

-- each number is above the one before it, the first above p
abbrev pub Rise : ℕ → List ℕ → Type 0
Rise p [] = Unit
Rise p (e ∷ es) = (p < e) × Rise e es

-- the last number, or p where there is none
abbrev pub last_of : ℕ → List ℕ → ℕ
last_of p [] = p
last_of p (e ∷ es) = last_of e es

abbrev pub AtMost : ℕ → List ℕ → Type 0
AtMost n [] = Unit
AtMost n (e ∷ es) = (e ≤ n) × AtMost n es
