-- The reasons of tokens whose cells stand in scratch.
use Rattle.std.specs.Prelude.{ℕ, ◌%◌, List, map}

abbrev pub reasons_in : List ℕ → List ℕ
reasons_in cells = map (λ (c : ℕ). c % 8) cells
