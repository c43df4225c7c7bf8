-- A trie that rising words are put into: all of its nodes so far, and the words that end at them.
use Rattle.std.specs.Prelude.{ℕ, suc, ◌+◌, ◌-◌, ◌*◌, ◌≤◌, ◌<◌, ◌≡◌, false, List, [], length, get_or, take}
use Rattle.std.proofs.Math.Option.{some}
use Rattle.refusal.specs.Limits.{max_word, max_nodes}
use Rattle.char_string_white_space.specs.Trimmed.{is_trimmed}
use Rattle.trie_pool.specs.Cells.{scalar_at, first_at, count_at, mark_at}
use Rattle.trie_pool.specs.Words.{at, rev}
use Rattle.trie_pool.specs.Meaning.{Terms}
use Rattle.trie_pool.specs.inner.Paths.{reach}
use Rattle.trie_pool.specs.inner.Sound.{Fit}
use Rattle.trie_build_rules.specs.inner.Laid.{Laid}

-- the word leads to the node
pub record Leads (p v : List ℕ) (i : ℕ) : Type 0 where
  pub there : reach p (rev v []) ≡ at i
  pub short : length v ≤ max_word

-- the word leads to a node with the mark of its class
pub record Marked (p v : List ℕ) (c : ℕ) : Type 0 where
  pub node : ℕ
  pub leads : Leads p v node
  pub mark : mark_at p node ≡ suc c

-- the mark of the node is that of a word
pub record Ended (p : List ℕ) (held : Terms) (i : ℕ) : Type 0 where
  pub word : List ℕ
  pub leads : Leads p word i
  pub class : held word ≡ some (mark_at p i - 1)

-- a node without anything
pub record Blank (p : List ℕ) (i : ℕ) : Type 0 where
  pub scalar : scalar_at p i ≡ 0
  pub first : first_at p i ≡ 0
  pub count : count_at p i ≡ 0
  pub mark : mark_at p i ≡ 0

-- The words held so far stand in the trie, whose levels start as s says and are filled up to next.
-- A node has a child or ends a word, but the node cur, which may be a leaf that ends none.
pub record Grown (p : List ℕ) (s next : ℕ → ℕ) (held : Terms) (cur : ℕ) : Type 0 where
  pub laid : Laid p s next
  pub top : next 256 ≡ s 256
  pub in_use : scalar_at p 0 ≡ s 256
  pub fits : 8 * s 256 ≤ length p + 4
  pub small : s 256 ≤ max_nodes
  pub fit : (d i : ℕ) → 0 < d → d ≤ 256 → s d ≤ i → i < next d → Fit (scalar_at p i) (mark_at p i)
  pub alive : (d i : ℕ) → 0 < d → d ≤ 256 → s d ≤ i → i < next d → (i ≡ cur → ⊥) → 1 ≤ count_at p i + mark_at p i
  pub start : (i : ℕ) → s 1 ≤ i → i < next 1 → is_trimmed (scalar_at p i) ≡ false
  pub blank : (i : ℕ) → ((d : ℕ) → d ≤ 256 → s d ≤ i → i < next d → ⊥) → Blank p i
  pub words : (v : List ℕ) (c : ℕ) → held v ≡ some c → Marked p v c
  pub marks : (i : ℕ) → 1 ≤ mark_at p i → Ended p held i

-- The last nodes of the first d levels are the path of the word.
pub record Path (p : List ℕ) (next : ℕ → ℕ) (w : List ℕ) (d : ℕ) : Type 0 where
  pub along : (k : ℕ) → k ≤ d → reach p (rev (take k w) []) ≡ at (next k - 1)

-- The words held stand in the trie, `before` was the last of them, and its end has no child.
pub record Built (p : List ℕ) (s next : ℕ → ℕ) (before : List ℕ) (held : Terms) : Type 0 where
  pub grown : Grown p s next held 0
  pub path : Path p next before (length before)
  pub short : length before ≤ max_word
  pub ends : (i : ℕ) → suc i ≡ next (length before) → count_at p i ≡ 0

-- w goes with `before` for l characters, and is above it
pub record Above (before w : List ℕ) (l : ℕ) : Type 0 where
  pub same : take l before ≡ take l w
  pub upto : l ≤ length before
  pub inside : l < length w
  pub less : l < length before → get_or before l 0 < get_or w l 0

-- the root alone in a half of a pool that is to have n nodes
pub record Bare (p : List ℕ) (n : ℕ) : Type 0 where
  pub first : get_or p 1 0 ≡ 1
  pub used : get_or p 0 0 ≡ n
  pub count : get_or p 2 0 ≡ 0
  pub blank : (i r : ℕ) → 0 < i → r < 4 → get_or p (8 * i + r) 0 ≡ 0
  pub fits : 8 * n ≤ length p + 4
  pub small : n ≤ max_nodes

-- every level but the root's is empty where it is to start
pub record Starts (s next : ℕ → ℕ) : Type 0 where
  pub zero' : s 0 ≡ 0
  pub one : s 1 ≡ 1
  pub root : next 0 ≡ 1
  pub empty : (d : ℕ) → 0 < d → d ≤ 256 → next d ≡ s d
  pub rise : (d : ℕ) → 0 < d → d < 256 → s d ≤ s (suc d)
