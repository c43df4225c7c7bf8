-- Lists of words with their classes: which are those of an image, what they hold, and the nodes
-- that a trie of them has.
use Rattle.std.specs.Prelude.{ℕ, ◌+◌, ◌-◌, ◌≤◌, ◌<◌, ◌≡◌, true, cond, List, [], ◌∷◌, length}
use Rattle.std.proofs.Math.Option.{Option, none, some}
use Rattle.trie_pool.specs.Cells.{max_class}
use Rattle.trie_pool.specs.Words.{Word}
use Rattle.trie_pool.specs.Meaning.{Terms, same}
use Rattle.image_rules.specs.Records.{Term}
use Rattle.image_rules.specs.Order.{below, common}

-- A word may stand behind `before`: trimmed, 1 to 255 long, above it; its class is at most 65,535.
pub record Next (before : List ℕ) (t : Term) : Type 0 where
  pub word : Word t.word
  pub class : t.class ≤ max_class
  pub above : below before t.word ≡ true

-- Words rise by scalars, each once. The empty word stands before all.
abbrev pub Rising : List ℕ → List Term → Type 0
Rising before [] = Unit {0}
Rising before (t ∷ ts) = Next before t × Rising t.word ts

-- A list that an image can say: its number of words is below 2 to the 32.
pub record Good (ts : List Term) : Type 0 where
  pub rising : Rising [] ts
  pub few : length ts < 4294967296

-- the class of a word of the list, or nothing
unfoldable pub terms_in : List Term → Terms
terms_in [] v = none
terms_in (t ∷ ts) v = cond (same v t.word) (some t.class) (terms_in ts v)

-- The list has exactly these words, each with its class.
pub record Lists (held : Terms) (ts : List Term) : Type 0 where
  pub good : Good ts
  pub is : (v : List ℕ) → terms_in ts v ≡ held v

-- The distinct non-empty prefixes of the words, each counted at the first word that has it: a trie
-- has so many nodes beside its root.
unfoldable pub charge_from : List ℕ → List Term → ℕ
charge_from before [] = 0
charge_from before (t ∷ ts) = (length t.word - common before t.word) + charge_from t.word ts

abbrev pub charge : List Term → ℕ
charge ts = charge_from [] ts
