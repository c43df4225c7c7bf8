-- What a pool means: its words and their classes, and what adding, removing and reading do with
-- them.
use Rattle.std.specs.Prelude.{ℕ, zero, suc, ◌+◌, Bool, true, false, not, cond, ◌&&◌, ◌||◌, List, [], ◌∷◌, eqb, length, take}
use Rattle.std.proofs.Math.Option.{Option, none, some}
use Rattle.trie_pool.specs.Cells.{mark_at, used}
use Rattle.trie_pool.specs.Words.{marked, holds, term_at}
use Rattle.trie_pool.specs.Rules.{cells_of, is_dictionary}

-- A set of words: which words are held.
abbrev pub Words : Type 0
Words = List ℕ → Bool

-- Words with their classes: the class of a word that is held, or nothing.
abbrev pub Terms : Type 0
Terms = List ℕ → Option ℕ

-- Its words are those with a class.
abbrev pub is_some : Option ℕ → Bool
is_some none = false
is_some (some c) = true

abbrev pub words_in : Terms → Words
words_in held v = is_some (held v)

-- Nothing exactly where refusal 4 is due, else which words are held. Cutting and reading speak of
-- a pool through this alone: they know no class.
unfoldable pub meaning : List ℕ → Option Words
meaning pool = cond (is_dictionary pool) (some (holds (cells_of pool))) none

-- Nothing exactly where refusal 4 is due, else the words and their classes. Changes speak of a pool
-- through this. Its words are those of `meaning` (proofs/Terms.antt: meaning_terms).
unfoldable pub terms : List ℕ → Option Terms
terms pool = cond (is_dictionary pool) (some (term_at (cells_of pool))) none

abbrev pub same : List ℕ → List ℕ → Bool
same [] [] = true
same [] (y ∷ w) = false
same (x ∷ v) [] = false
same (x ∷ v) (y ∷ w) = eqb x y && same v w

-- A fresh pool holds no word.
abbrev pub no_term : Terms
no_term v = none

abbrev pub no_word : Words
no_word v = false

-- Adding a word with a class: a held word's class is replaced. A word empty after trimming changes
-- nothing.
abbrev pub with_term : List ℕ → ℕ → Terms → Terms
with_term [] c held v = held v
with_term (x ∷ w) c held v = cond (same v (x ∷ w)) (some c) (held v)

abbrev pub without_term : List ℕ → Terms → Terms
without_term w held v = cond (same v w) none (held v)

-- Add and remove report 1 if the words or their classes changed, else 0: they can change at the
-- word alone.
abbrev pub differ : Option ℕ → Option ℕ → ℕ
differ none none = 0
differ none (some c) = 1
differ (some a) none = 1
differ (some a) (some c) = cond (eqb a c) 0 1

abbrev pub report_term : List ℕ → Terms → Terms → ℕ
report_term w before after = differ (before w) (after w)

-- The same of the words alone.
abbrev pub with_word : List ℕ → Words → Words
with_word [] held v = held v
with_word (x ∷ w) held v = same v (x ∷ w) || held v

abbrev pub without_word : List ℕ → Words → Words
without_word w held v = not (same v w) && held v

abbrev pub differs : Bool → Bool → ℕ
differs true true = 0
differs true false = 1
differs false true = 1
differs false false = 0

abbrev pub report : List ℕ → Words → Words → ℕ
report w before after = differs (before w) (after w)

-- words that were all added without a class
abbrev pub classless : Words → Terms
classless held v = cond (held v) (some 0) none

-- Prefix lengths come rising: the k from i on, n of them, at which the first k characters are a
-- word
abbrev pub lengths_from : Words → List ℕ → ℕ → ℕ → List ℕ
lengths_from held text i zero = []
lengths_from held text i (suc n) =
    cond (held (take i text)) (i ∷ lengths_from held text (suc i) n) (lengths_from held text (suc i) n)

unfoldable pub prefix_lengths : Words → List ℕ → List ℕ
prefix_lengths held text = lengths_from held text 1 (length text)

-- how many of the numbers below n pass the test
abbrev pub tally : (ℕ → Bool) → ℕ → ℕ
tally f zero = 0
tally f (suc n) = tally f n + cond (f n) 1 0

-- The word count: one word ends at each marked node.
abbrev pub amount : List ℕ → ℕ
amount p = tally (λ i. marked (mark_at p i)) (used p)
