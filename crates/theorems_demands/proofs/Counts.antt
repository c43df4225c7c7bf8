-- Refusal 8 and the word count in 01's words: both are counted by cells, and are the numbers of
-- prefixes and of words. Assumes nothing.
use Prim.Native.Nat.{ℕ, suc, ◌+◌, ◌-◌}
use native.Mathlib.Omega.{arith}
use mathlib.Core.Path.{◌≡◌, sym, subst}
use mathlib.Core.Bool.{true}
use mathlib.Core.List.{List, ◌∷◌}
use Rattle.trie_pool.specs.Cells.{used}
use Rattle.trie_pool.specs.Words.{lacking}
use Rattle.trie_pool.specs.Rules.{is_dictionary, cells_of}
use Rattle.trie_pool.specs.Meaning.{Words, with_word, amount}
use Rattle.trie_pool.specs.Listing.{Number, Held, Prefix}
use Rattle.trie_pool.proofs.Rules.{sound}
use Rattle.trie_pool.proofs.Listing.{word_count}
use Rattle.trie_pool.proofs.With.{nodes_with_word}
use Rattle.trie_pool.proofs.Number.{one_number}
use Rattle.trie_check.proofs.Parts.{held_is}
use Rattle.trie_char_answers.specs.Refusals.{nodes_with}
use Rattle.trie_char_answers.specs.Answers.{words_of}

-- The word count: the number that the contract of `amount_of_words` gives is the number of words
-- held.
pub amount_is : (pool : List ℕ) → is_dictionary pool ≡ true → (k : ℕ) → Number (Held (words_of pool)) k → amount (cells_of pool) ≡ k
amount_is pool h k m = one_number (Held (words_of pool)) (amount (cells_of pool)) k counted m
  where
    counted : Number (Held (words_of pool)) (amount (cells_of pool))
    counted =
        subst (λ (f : Words). Number (Held f) (amount (cells_of pool))) (sym (held_is pool h))
        (word_count (cells_of pool) (used (cells_of pool)) (sound (cells_of pool) h))

-- Nodes in use are the root and one for each distinct non-empty prefix of the words held: so many
-- there would be with the word added, and by this number refusal 8 goes (`node_causes`).
pub nodes_is : (pool : List ℕ) (y : ℕ) (w : List ℕ) → is_dictionary pool ≡ true
    → (k : ℕ) → Number (Prefix (with_word (y ∷ w) (words_of pool))) k → nodes_with pool (y ∷ w) ≡ suc k
nodes_is pool y w h k m =
    let g = sound (cells_of pool) h in
    omega (arith, one_number (Prefix (with_word (y ∷ w) (words_of pool))) (used (cells_of pool) + lacking (cells_of pool) (y ∷ w) 0 - 1) k counted m, g.shaped.some)
  where
    counted : Number (Prefix (with_word (y ∷ w) (words_of pool))) (used (cells_of pool) + lacking (cells_of pool) (y ∷ w) 0 - 1)
    counted =
        subst (λ (f : Words). Number (Prefix (with_word (y ∷ w) f)) (used (cells_of pool) + lacking (cells_of pool) (y ∷ w) 0 - 1)) (sym (held_is pool h))
        (nodes_with_word (cells_of pool) (used (cells_of pool)) (sound (cells_of pool) h) y w)
