-- A run of texts, one after the other, from zeros.
use Rattle.std.specs.Prelude.{ℕ, ◌+◌, ◌≡◌, cond, List, [], ◌∷◌, map, eqb}
use Rattle.figures_rules.specs.Figures.{tokens, tokens_by, most_edges, figure, row, zeros, larger, after}
use Rattle.figures_rules.specs.Outcomes.{Outcome, of_outcome}

-- figures after texts with these outcomes
unfoldable pub fed : List ℕ → List Outcome → List ℕ
fed figures [] = figures
fed figures (o ∷ os) = fed (after figures (of_outcome o)) os

abbrev pub run : List Outcome → List ℕ
run os = fed zeros os

-- ---- the sums, and the largest

unfoldable pub sum : List ℕ → ℕ
sum [] = 0
sum (x ∷ xs) = x + sum xs

unfoldable pub largest : List ℕ → ℕ
largest [] = 0
largest (x ∷ xs) = larger x (largest xs)

-- a figure of each text
abbrev pub of_each : ℕ → List Outcome → List ℕ
of_each i os = map (λ (o : Outcome). figure (of_outcome o) i) os

-- The most edges: the largest over the texts. All other figures: the sums.
unfoldable pub total : List Outcome → List ℕ
total os = row (λ (i : ℕ). cond (eqb i most_edges) (largest (of_each i os)) (sum (of_each i os)))

-- Token counts by reason sum to tokens.
abbrev pub Balanced : List ℕ → Type 0
Balanced a =
    figure a (tokens_by 1) + figure a (tokens_by 2) + figure a (tokens_by 3) + figure a (tokens_by 4) + figure a (tokens_by 5)
    ≡ figure a tokens
