-- What holds of pools, however they came about.
use Rattle.std.specs.Prelude.{ℕ, ◌+◌, ◌*◌, ◌≤◌, ◌≡◌, true, List, ◌++◌, length, replicate, Err}
use Rattle.std.proofs.Math.Option.{some}
use Rattle.refusal.specs.declared.Refusal.{Refusal}
use Rattle.trie_pool.specs.Words.{Word}
use Rattle.trie_pool.specs.Rules.{is_dictionary}
use Rattle.trie_pool.specs.Meaning.{Words, Terms, meaning, terms}
use Rattle.theorems_demands.specs.Demand3.{Freshened, Added, Taken, Replaced, Reached}

-- Every pool reached from a fresh one passes, and means the words with the classes that the calls
-- left.
abbrev pub Passes : Type 0
Passes = (pool : List ℕ) (held : Terms) → Reached pool held → (is_dictionary pool ≡ true) × (terms pool ≡ some held)

-- A refused call leaves a reached pool reached, with the same words and classes.
abbrev pub StillReached : Type 0
StillReached =
    (old new word image : List ℕ) (class : ℕ) (held : Terms) (r : Refusal)
    → Reached old held
    → (Freshened (Err r) old new → Reached new held)
    × (Added (Err r) word class old new → Reached new held)
    × (Taken (Err r) word old new → Reached new held)
    × (Replaced (Err r) image old new → Reached new held)

-- A pool of whole nodes that passes, lent with j more nodes of zeros behind them, means the same
-- words with the same classes: it passes too.
abbrev pub Grown : Type 0
Grown =
    (pool : List ℕ) (m j : ℕ)
    → length pool ≡ 8 * m
    → m + j ≤ 1048576
    → is_dictionary pool ≡ true
    → terms (pool ++ replicate (8 * j) 0) ≡ terms pool

-- Each word of a pool that passes is trimmed and 1 to 255 scalar values long.
abbrev pub EachWord : Type 0
EachWord = (pool : List ℕ) (words : Words) → meaning pool ≡ some words → (w : List ℕ) → words w ≡ true → Word w
