-- What putting a word in asks and leaves.
use Rattle.std.specs.Prelude.{ℕ, suc, ◌+◌, ◌-◌, ◌*◌, ◌≤◌, ◌<◌, ◌≡◌, true, false, List, length, get_or}
use Rattle.refusal.specs.Limits.{max_word, max_nodes}
use Rattle.char_string_scalars.specs.Scalars.{is_scalar}
use Rattle.char_string_white_space.specs.Trimmed.{is_trimmed}
use Rattle.trie_pool.specs.Cells.{max_class, used}
use Rattle.trie_pool.specs.Words.{lacking, none, at, child, term, term_at}
use Rattle.trie_pool.specs.inner.Sound.{Sound}
use Rattle.trie_leaf.specs.inner.Planting.{Room, Planted, Beside}

-- what `enter` asks
pub record Enters (p : List ℕ) (b x : ℕ) : Type 0 where
  pub sound : Sound p (used p) b
  pub inside : b < used p
  pub room : child p b x ≡ none → 8 * suc (used p) ≤ length p + 4
  pub small : child p b x ≡ none → suc (used p) ≤ max_nodes

-- what it leaves: the child of b with scalar x is r, made if there was none
pub data Entered (p p' : List ℕ) (b x r : ℕ) : Type 0 where
  stayed : p' ≡ p → child p b x ≡ at r → Entered p p' b x r
  grew : Room p (used p) b r x → Planted p p' (used p) b r x → Entered p p' b x r

-- what `add_word` asks
pub record Puts (p w : List ℕ) (mark : ℕ) : Type 0 where
  pub sound : Sound p (used p) 0
  pub some : 1 ≤ length w
  pub short : length w ≤ max_word
  pub legal : (t : ℕ) → t < length w → is_scalar (get_or w t 0) ≡ true
  pub start : is_trimmed (get_or w 0 0) ≡ false
  pub stop : is_trimmed (get_or w (length w - 1) 0) ≡ false
  pub room : 8 * (used p + lacking p w 0) ≤ length p + 4
  pub small : used p + lacking p w 0 ≤ max_nodes
  pub marks : 1 ≤ mark
  pub upto : mark ≤ max_class + 1

-- what it leaves: a dictionary that holds the word with this mark, and else what it held
pub record PutIn (p p' w : List ℕ) (mark : ℕ) : Type 0 where
  pub sound : Sound p' (used p + lacking p w 0) 0
  pub held : term_at p' w ≡ term mark
  pub others : (v : List ℕ) → (v ≡ w → ⊥) → term_at p' v ≡ term_at p v
  pub beside : Beside p p'
