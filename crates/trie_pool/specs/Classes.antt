-- THE CLASSES OF A POOL: what is shown of them. 02, ticket 6.
use Rattle.std.specs.Prelude.{ℕ, ◌≤◌, ◌≡◌, false, List}
use Rattle.std.proofs.Math.Option.{Option, none, some}
use Rattle.trie_pool.specs.Cells.{max_class, mark_at, class_at}
use Rattle.trie_pool.specs.Words.{marked}
use Rattle.trie_pool.specs.Meaning.{Words, Terms, words_in, meaning, terms}

abbrev pub words_only : Option Terms → Option Words
words_only none = none
words_only (some held) = some (words_in held)

-- The words of a pool are those with a class.
abbrev pub MeaningTerms : Type 0
MeaningTerms = (pool : List ℕ) → meaning pool ≡ words_only (terms pool)

-- A node that ends no word has class 0.
abbrev pub NoWordNoClass : Type 0
NoWordNoClass = (p : List ℕ) (i : ℕ) → marked (mark_at p i) ≡ false → class_at p i ≡ 0

-- The class of each word that a pool holds is at most 65,535.
abbrev pub HeldClass : Type 0
HeldClass =
    (pool : List ℕ) (held : Terms)
    → terms pool ≡ some held
    → (w : List ℕ) (c : ℕ)
    → held w ≡ some c
    → c ≤ max_class
