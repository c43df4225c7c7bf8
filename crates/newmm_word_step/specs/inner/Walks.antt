-- The words that start at a place, met one character at a time.
use Rattle.std.specs.Prelude.{ℕ, suc, ◌+◌, ◌-◌, ◌≤◌, ◌<◌, ◌≡◌, Bool, true, false, List, length, take, drop}
use Rattle.newmm_rules.specs.Words.{Given, is_word}
use Rattle.tcc.specs.Flags.{is_end, end_flags}
use Rattle.trie_pool.specs.Words.{at, walk, holds}
use Rattle.trie_pool.specs.inner.Sound.{Readable}
use Rattle.newmm_word_step.specs.declared.Step.{Step}
use Rattle.newmm_word_step.specs.declared.Step.TheVariants.{Nothing, Word, Part}

-- What is cut, by a text and the cells of a dictionary: its cluster ends are those of the text, its
-- words those that the cells hold.
abbrev pub given_by : List ℕ → List ℕ → Given
given_by text pool = record { text = text; is_end = is_end text; held = holds pool }

-- the characters from b to e lead to the node
pub record Walked (text pool : List ℕ) (b e node : ℕ) : Type 0 where
  pub order : b ≤ e
  pub leads : walk pool (take (e - b) (drop b text)) 0 ≡ at node

-- what a step from e asks
pub record Asks (text pool flags : List ℕ) (e node : ℕ) : Type 0 where
  pub inside : e < length text
  pub node_is : Readable pool node
  pub flags_are : flags ≡ end_flags text

pub record Next (text pool : List ℕ) (b e node : ℕ) (word : Bool) : Type 0 where
  pub walked : Walked text pool b (e + 1) node
  pub node_is : Readable pool node
  pub tells : is_word (given_by text pool) b (e + 1) ≡ word

-- what a step tells: no word ends behind e; or whether one ends at e + 1, which is a cluster end,
-- and the node there
abbrev pub StepIs : Step → List ℕ → List ℕ → ℕ → ℕ → Type 0
StepIs Nothing text pool b e = (k : ℕ) → e < k → is_word (given_by text pool) b k ≡ false
StepIs (Word node) text pool b e = Next text pool b e node true
StepIs (Part node) text pool b e = Next text pool b e node false

-- it tells so of every b from which the characters lead to the node
abbrev pub Steps : List ℕ → List ℕ → ℕ → ℕ → Step → Type 0
Steps text pool e node r = (b : ℕ) → Walked text pool b e node → StepIs r text pool b e
