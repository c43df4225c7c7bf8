-- What a host is told of its dictionary, and what becomes of the rows that it lends: the answer and
-- the row of the library function, as its contract gives them.
use Rattle.std.specs.Prelude.{ℕ, ◌≡◌, List, Result, Ok, Err, Some, None}
use Rattle.refusal.specs.declared.Refusal.{Refusal}
use Rattle.refusal.specs.Answers.{output}
use Rattle.trie_pool.specs.Meaning.{no_term}
use Rattle.trie_char_answers.specs.Answers.{WordAnswer}
use Rattle.trie_char_answers.specs.Changes.{After}
use Rattle.trie_char_answers.specs.Answers.{fresh_answer, added, add_answer, removed, remove_answer}
use Rattle.trie_char_answers.specs.Answers.{contains_answer, prefixes, prefixes_answer, word_count_answer}
use Rattle.host_telling.specs.Told.{Told, tells}

-- A DICTIONARY WITHOUT WORDS: what is told, and the pool.
abbrev pub FreshTold : (pool : List ℕ) → Told → (left : List ℕ) → Type 0
FreshTold pool t left = (t ≡ tells (fresh_answer pool)) × After (fresh_answer pool) pool left no_term

-- A WORD ADDED, with a class: what is told, and the pool. Without one it is class 0.
abbrev pub AddTold : (word : List ℕ) (class : ℕ) (pool : List ℕ) → Told → (left : List ℕ) → Type 0
AddTold word class pool t left =
    (t ≡ tells (add_answer word class pool)) × After (add_answer word class pool) pool left (added word class pool)

-- A WORD REMOVED: what is told, and the pool.
abbrev pub RemoveTold : (word pool : List ℕ) → Told → (left : List ℕ) → Type 0
RemoveTold word pool t left =
    (t ≡ tells (remove_answer word pool)) × After (remove_answer word pool) pool left (removed word pool)

-- A word's answer without its class, 1 or 0, and the class alone: 0 with a no and with a refusal.
abbrev pub held_answer : WordAnswer → Result ℕ Refusal
held_answer (Ok None) = Ok 0
held_answer (Ok (Some class)) = Ok 1
held_answer (Err r) = Err r

abbrev pub class_told : WordAnswer → ℕ
class_told (Ok None) = 0
class_told (Ok (Some class)) = class
class_told (Err r) = 0

-- IS A WORD HELD: what is told.
abbrev pub ContainsTold : (word pool : List ℕ) → Told → Type 0
ContainsTold word pool t = t ≡ tells (held_answer (contains_answer word pool))

-- IS A WORD HELD, AND WITH WHICH CLASS: what is told, and the class.
abbrev pub ContainsClassTold : (word pool : List ℕ) → Told → (class : ℕ) → Type 0
ContainsClassTold word pool t class = ContainsTold word pool t × (class ≡ class_told (contains_answer word pool))

-- WORDS THAT A TEXT STARTS WITH: what is told, and the output with their lengths.
abbrev pub PrefixesTold : (text pool out : List ℕ) → Told → (left : List ℕ) → Type 0
PrefixesTold text pool out t left =
    (t ≡ tells (prefixes_answer text pool out)) × (left ≡ output (prefixes_answer text pool out) (prefixes text pool) out)

-- THE NUMBER OF WORDS: what is told.
abbrev pub WordCountTold : (pool : List ℕ) → Told → Type 0
WordCountTold pool t = t ≡ tells (word_count_answer pool)
