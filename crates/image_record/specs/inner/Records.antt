-- What is told of the record at a place of an image.
use Rattle.std.specs.Prelude.{ℕ, ◌+◌, ◌-◌, ◌≤◌, ◌<◌, ◌≡◌, false, ◌&&◌, List, eqb, length, take, drop, Option, None, Some}
use Rattle.utf8.specs.Decoding.{run_all}
use Rattle.trie_pool.specs.Cells.{max_class}
use Rattle.image_rules.specs.Reading.{size_at, behind, word_bytes, term_of, follows, is_word, is_last}
use Rattle.image_record.specs.declared.Record.{Record}
use Rattle.image_record.specs.declared.Record.TheVariants.{Word, Last}

-- kind 1: its class, and the bytes of its word
pub record Entry (s : List ℕ) (at c from to : ℕ) : Type 0 where
  pub is : (before : List ℕ)
      → is_word before (drop at s) ≡ (run_all (word_bytes (drop at s))).whole && follows before (term_of (drop at s)).word
  pub no_last : (m : ℕ) → is_last m (drop at s) ≡ false
  pub class : c ≡ (term_of (drop at s)).class
  pub few : c ≤ max_class
  pub word : take (to - from) (drop from s) ≡ word_bytes (drop at s)
  pub low : at + 8 ≡ from
  pub order : from < to
  pub inside : to ≤ length s
  pub next : to ≡ at + (4 + size_at (drop at s))
  pub rest : drop to s ≡ behind (drop at s)

-- kind 0: its number
pub record End (s : List ℕ) (at n : ℕ) : Type 0 where
  pub no_word : (before : List ℕ) → is_word before (drop at s) ≡ false
  pub is : (m : ℕ) → is_last m (drop at s) ≡ eqb n m
  pub inside : at + 10 ≤ length s

-- neither
pub record Neither (bytes : List ℕ) : Type 0 where
  pub no_word : (before : List ℕ) → is_word before bytes ≡ false
  pub no_last : (m : ℕ) → is_last m bytes ≡ false

abbrev pub Says : List ℕ → ℕ → Option Record → Type 0
Says s at (Some (Word c from to)) = Entry s at c from to
Says s at (Some (Last n)) = End s at n
Says s at None = Neither (drop at s)
