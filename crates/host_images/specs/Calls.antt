-- What a host is told of a word list image, and what becomes of the rows that it lends: the answer
-- and the row of the library function, as its contract gives them.
use Rattle.std.specs.Prelude.{ℕ, ◌≡◌, List}
use Rattle.refusal.specs.Answers.{output}
use Rattle.trie_char_answers.specs.Changes.{After}
use Rattle.word_list_answers.specs.Answers.{read_answer, image_terms}
use Rattle.word_list_write.specs.Answers.{image_in, write_answer}
use Rattle.host_telling.specs.Told.{Told, tells}

-- AN IMAGE READ: what is told, and the pool.
abbrev pub ReadImageTold : (image pool : List ℕ) → Told → (left : List ℕ) → Type 0
ReadImageTold image pool t left =
    (t ≡ tells (read_answer image pool)) × After (read_answer image pool) pool left (image_terms image)

-- AN IMAGE WRITTEN: what is told, and the output.
abbrev pub WriteImageTold : (pool out : List ℕ) → Told → (left : List ℕ) → Type 0
WriteImageTold pool out t left =
    (t ≡ tells (write_answer pool out)) × (left ≡ output (write_answer pool out) (image_in pool) out)
