-- What making a dictionary that of an image asks, and what emptying it leaves.
use Rattle.std.specs.Prelude.{ℕ, suc, ◌+◌, ◌*◌, ◌≤◌, ◌<◌, ◌≡◌, List, [], length, get_or, Result, Ok, Err}
use Rattle.refusal.specs.declared.Refusal.{Refusal}
use Rattle.refusal.specs.Limits.{max_nodes}
use Rattle.trie_pool.specs.Cells.{used}
use Rattle.trie_pool.specs.inner.Sound.{Sound}
use Rattle.trie_leaf.specs.inner.Planting.{Beside}
use Rattle.image_rules.specs.Records.{Term}
use Rattle.image_rules.specs.Lists.{charge}
use Rattle.image_rules.specs.Reading.{list, read_of}
use Rattle.image_rules.specs.inner.News.{news_from}
use Rattle.image_place.specs.inner.Placing.{Holds}
use Rattle.word_list_answers.specs.Answers.{list_of}

-- there are n nodes
pub record Clears (p : List ℕ) (n : ℕ) : Type 0 where
  pub some : 1 ≤ n
  pub fits : 8 * n ≤ length p + 4

-- the nodes behind the root and before n are 0, and no other cell is changed
pub record Cleared (p p' : List ℕ) (n : ℕ) : Type 0 where
  pub blank : (i r : ℕ) → 0 < i → i < n → r < 4 → get_or p' (8 * i + r) 0 ≡ 0
  pub other : (k : ℕ) → ((i r : ℕ) → 0 < i → i < n → r < 4 → k ≡ 8 * i + r → ⊥) → get_or p' k 0 ≡ get_or p k 0

-- a dictionary, the image's list, the nodes of each level of its trie, and room for them all
pub record Builds (image p levels : List ℕ) (n : ℕ) : Type 0 where
  pub sound : Sound p (used p) 0
  pub terms : List Term
  pub reads : read_of image ≡ list terms
  pub news : (d : ℕ) → get_or levels d 0 ≡ news_from d [] terms
  pub many : length levels ≡ 257
  pub number : n ≡ suc (charge terms)
  pub fits : 8 * n ≤ length p + 4
  pub small : n ≤ max_nodes

-- a dictionary that may have so many nodes, which are all there
pub record Roomy (p : List ℕ) (room : ℕ) : Type 0 where
  pub sound : Sound p (used p) 0
  pub fits : 8 * room ≤ length p + 4
  pub small : room ≤ max_nodes

-- It has the words of the image, in no more nodes, and what is beside it is as it was.
pub record Replaces (image p p' : List ℕ) (room : ℕ) : Type 0 where
  pub holds : Holds p' (used p') (list_of image)
  pub beside : Beside p p'
  pub within : used p' ≤ room

-- A refusal changes nothing.
abbrev pub Replaced : Result ℕ Refusal → List ℕ → List ℕ → List ℕ → ℕ → Type 0
Replaced (Ok words) image p p' room = Replaces image p p' room
Replaced (Err r) image p p' room = p' ≡ p
