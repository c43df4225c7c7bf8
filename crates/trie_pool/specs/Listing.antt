-- How many words a set has: a list of them all, each once, and its length.
use Rattle.std.specs.Prelude.{ℕ, ◌≤◌, ◌≡◌, true, List, [], ◌∷◌, ◌++◌, ◌⊎◌, length}
use Rattle.trie_pool.specs.Meaning.{Words}

abbrev pub Member : List ℕ → List (List ℕ) → Type 0
Member v [] = ⊥
Member v (w ∷ ws) = (v ≡ w) ⊎ Member v ws

abbrev pub Distinct : List (List ℕ) → Type 0
Distinct [] = Unit {0}
Distinct (w ∷ ws) = (Member w ws → ⊥) × Distinct ws

-- exactly k words are P
pub record Number (P : List ℕ → Type 0) (k : ℕ) : Type 0 where
  pub words : List (List ℕ)
  pub distinct : Distinct words
  pub only : (v : List ℕ) → Member v words → P v
  pub all : (v : List ℕ) → P v → Member v words
  pub long : length words ≡ k

-- the words of a set
abbrev pub Held : Words → List ℕ → Type 0
Held words v = words v ≡ true

-- the non-empty prefixes of the words of a set
pub record Prefix (words : Words) (v : List ℕ) : Type 0 where
  pub some : 1 ≤ length v
  pub rest : List ℕ
  pub held : words (v ++ rest) ≡ true
