-- The tokens that plain cutting gives.
use Rattle.std.specs.Prelude.{ℕ, ◌<◌, ◌≡◌, List, [], ◌∷◌}
use Rattle.newmm_rules.specs.Positions.{In}
use Rattle.newmm_rules.specs.Words.{Given, size, word_ends}
use Rattle.newmm_rules.specs.NonDictionary.{token_end}

-- A token from b to e is a held word that ends at a cluster end; or no such word starts at b, and
-- it is the non-dictionary rule's.
pub data Token (g : Given) (b e : ℕ) : Type 0 where
  word : In e (word_ends g b) → Token g b e
  other : word_ends g b ≡ [] → b < size g → e ≡ token_end g b → Token g b e

-- the ends of tokens, each of which starts where the one before it ends: from a to z
pub data Tokens (g : Given) : ℕ → List ℕ → ℕ → Type 0 where
  stop : {a : ℕ} → Tokens g a [] a
  then : {a e z : ℕ} {es : List ℕ} → Token g a e → Tokens g e es z → Tokens g a (e ∷ es) z
