-- Every pool reached from a fresh one passes and holds the words with the classes that the calls
-- left, and each of these is a word. Assumes nothing.
use Prim.Native.Nat.{ℕ}
use mathlib.Core.Path.{◌≡◌, refl, sym, ◌∙◌, ap, subst}
use mathlib.Core.Bool.{true}
use mathlib.Core.List.{List}
use mathlib.Core.Option.{Option, some}
use Rattle.char_string_trim.specs.Trimming.{trimmed_of}
use Rattle.trie_pool.specs.Cells.{used}
use Rattle.trie_pool.specs.Words.{holds}
use Rattle.trie_pool.specs.Rules.{cells_of, is_dictionary}
use Rattle.trie_pool.specs.Meaning.{Words, Terms, terms, with_term, without_term}
use Rattle.trie_pool.proofs.Rules.{sound}
use Rattle.trie_pool.proofs.Held.{held_word}
use Rattle.trie_check.specs.Refusals.{is_none, held, held_terms}
use Rattle.trie_check.proofs.Parts.{known_is, held_is, terms_known}
use Rattle.theorems_demands.specs.Demand3.{Reached, fresh, add, remove, read}
use Rattle.theorems_demands.specs.Pools.{Passes, StillReached, EachWord}

pub means : {pool : List ℕ} {held : Terms} → Reached pool held → terms pool ≡ some held
means (fresh f) = f.1.means
means (add word class r a) = a.1.means ∙ ap (λ (m : Option Terms). some (with_term (trimmed_of word) class (held_terms m))) (means r)
means (remove word r a) = a.1.means ∙ ap (λ (m : Option Terms). some (without_term (trimmed_of word) (held_terms m))) (means r)
means (read image r a) = a.1.means

pub passes : Passes
passes pool held r = (terms_known pool held (means r), means r)

-- a refused call changes no pool
pub still_reached : StillReached
still_reached old new word image class held r h = (λ a. kept a.1, λ a. kept a.1, λ a. kept a.1, λ a. kept a.1)
  where
    kept : new ≡ old → Reached new held
    kept e = subst (λ (p : List ℕ). Reached p held) (sym e) h

pub each_word : EachWord
each_word pool words e w h =
    let d : is_dictionary pool ≡ true = known_is pool (ap is_none e) in
    let same : holds (cells_of pool) ≡ words = sym (held_is pool d) ∙ ap held e in
    held_word (cells_of pool) (used (cells_of pool)) (sound (cells_of pool) d) w (ap (λ (f : Words). f w) same ∙ h)
