-- What each operation on a dictionary answers: the first refusal that applies, or the number that
-- it is accepted with.
use Rattle.std.specs.Prelude as prelude
use Rattle.std.specs.Prelude.{ℕ, List, length, Result, Ok, Err, Some, None}
use Rattle.std.proofs.Math.Option.{Option, none, some}
use Rattle.refusal.specs.declared.Refusal.{Refusal}
use Rattle.refusal.specs.Answers.{answer}
use Rattle.char_string_trim.specs.Trimming.{trimmed_of}
use Rattle.trie_pool.specs.Rules.{cells_of}
use Rattle.trie_pool.specs.Meaning.{Words, Terms, meaning, terms, with_term, without_term, report_term}
use Rattle.trie_pool.specs.Meaning.{prefix_lengths, amount}
use Rattle.trie_check.specs.Refusals.{held, held_terms, pool_causes, read_causes}
use Rattle.trie_char_answers.specs.Refusals.{prefix_causes, remove_causes, add_causes, fresh_causes}

-- Fresh pool: 8.
abbrev pub fresh_answer : List ℕ → Result ℕ Refusal
fresh_answer pool = answer (fresh_causes pool) 0

-- the words of a pool, the same with their classes, and those that an accepted add or remove leaves
abbrev pub words_of : List ℕ → Words
words_of pool = held (meaning pool)

abbrev pub terms_of : List ℕ → Terms
terms_of pool = held_terms (terms pool)

abbrev pub added : List ℕ → ℕ → List ℕ → Terms
added word class pool = with_term (trimmed_of word) class (terms_of pool)

abbrev pub removed : List ℕ → List ℕ → Terms
removed word pool = without_term (trimmed_of word) (terms_of pool)

-- Add, with a class: 2, 3, 4, 7, 8; accepted with 1 if the words or their classes changed, else 0.
-- Add without a class means class 0.
abbrev pub add_answer : List ℕ → ℕ → List ℕ → Result ℕ Refusal
add_answer word class pool =
    answer (add_causes word pool) (report_term (trimmed_of word) (terms_of pool) (added word class pool))

-- Remove: 2, 3, 4, 7; the same.
abbrev pub remove_answer : List ℕ → List ℕ → Result ℕ Refusal
remove_answer word pool =
    answer (remove_causes word (meaning pool)) (report_term (trimmed_of word) (terms_of pool) (removed word pool))

-- Contains tells the class of a word that is held, or nothing.
abbrev pub WordAnswer : Type 0
WordAnswer = Result (prelude.Option ℕ) Refusal

abbrev pub tells_term : Option ℕ → WordAnswer
tells_term none = Ok None
tells_term (some class) = Ok (Some class)

abbrev pub told_term : Result ℕ Refusal → Option ℕ → WordAnswer
told_term (Ok n) term = tells_term term
told_term (Err r) term = Err r

-- Contains: 2, 3, 4.
abbrev pub contains_answer : List ℕ → List ℕ → WordAnswer
contains_answer word pool = told_term (answer (read_causes word (meaning pool)) (length word)) (terms_of pool word)

-- Prefix lengths: 2, 3, 4, 6; accepted with their number.
abbrev pub prefixes : List ℕ → List ℕ → List ℕ
prefixes text pool = prefix_lengths (words_of pool) text

abbrev pub prefixes_answer : List ℕ → List ℕ → List ℕ → Result ℕ Refusal
prefixes_answer text pool out = answer (prefix_causes text (meaning pool) out) (length (prefixes text pool))

-- Word count: 4.
abbrev pub word_count_answer : List ℕ → Result ℕ Refusal
word_count_answer pool = answer (pool_causes (meaning pool)) (amount (cells_of pool))
