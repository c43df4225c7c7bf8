-- DEMAND 3: the same text, mode and words give the same ends and the same edge count, however the
-- pools came about and whatever scratch held. Everything that the statement stands on is named
-- here; `Demand3AnyFor` and `Demand3For` are the statement for every cutting call, for any pools
-- and for reached ones; the last two are the statement for the cut.
use Rattle.std.specs.Prelude.{ℕ, ◌≤◌, ◌≡◌, List, length, take, Result, Ok}
use Rattle.std.proofs.Math.Option.{some}
use Rattle.newmm_rules.specs.declared.Ends.{Ends}
use Rattle.refusal.specs.declared.Refusal.{Refusal}
use Rattle.char_string_trim.specs.Trimming.{trimmed_of}
use Rattle.trie_pool.specs.Meaning.{Words, Terms, words_in, meaning, no_term, with_term, without_term}
use Rattle.trie_char_answers.specs.Answers.{fresh_answer, add_answer, added, remove_answer, removed}
use Rattle.trie_char_answers.specs.Changes.{After}
use Rattle.word_list_answers.specs.Answers.{read_answer, image_terms}
use Rattle.newmm_rules.specs.declared.Mode.{Mode}
use Rattle.newmm_answers.specs.Answers.{accepted_with, scratch_for}
use Rattle.newmm_answers.specs.Calls.{Call, answer_of, out_of}

-- What the contracts of `fresh`, `add`, `remove` and `read_image` say of a call: its answer, and
-- the pool before and after it.
abbrev pub Freshened : Result ℕ Refusal → List ℕ → List ℕ → Type 0
Freshened r old new = (r ≡ fresh_answer old) × After r old new no_term

abbrev pub Added : Result ℕ Refusal → List ℕ → ℕ → List ℕ → List ℕ → Type 0
Added r word class old new = (r ≡ add_answer word class old) × After r old new (added word class old)

abbrev pub Taken : Result ℕ Refusal → List ℕ → List ℕ → List ℕ → Type 0
Taken r word old new = (r ≡ remove_answer word old) × After r old new (removed word old)

abbrev pub Replaced : Result ℕ Refusal → List ℕ → List ℕ → List ℕ → Type 0
Replaced r image old new = (r ≡ read_answer image old) × After r old new (image_terms image)

-- A pool of any size that is reached from a fresh one by accepted adds, removals and readings of an
-- image, and the words with their classes that they leave. An add without a class has class 0. A
-- refused call leaves a reached pool reached (Pools, `StillReached`).
pub data Reached : List ℕ → Terms → Type 0 where
  fresh : {old new : List ℕ} {n : ℕ} → Freshened (Ok n) old new → Reached new no_term
  add : {old new : List ℕ} {held : Terms} {n : ℕ} (word : List ℕ) (class : ℕ)
      → Reached old held
      → Added (Ok n) word class old new
      → Reached new (with_term (trimmed_of word) class held)
  remove : {old new : List ℕ} {held : Terms} {n : ℕ} (word : List ℕ)
      → Reached old held
      → Taken (Ok n) word old new
      → Reached new (without_term (trimmed_of word) held)
  read : {old new : List ℕ} {held : Terms} {n : ℕ} (image : List ℕ)
      → Reached old held
      → Replaced (Ok n) image old new
      → Reached new (image_terms image)

-- A cutting call, said once for all of them: what it is given, each row as it was lent; what it
-- answers; and what its output then holds. An answer of n takes so many cells of the output.
pub record Operation : Type 1 where
  pub Asked : Type 0
  pub Cell : Type 0
  pub mode : Asked → Mode
  pub text : Asked → List ℕ
  pub pool : Asked → List ℕ
  pub scratch : Asked → List ℕ
  pub out : Asked → List Cell
  pub answer : Asked → Result Ends Refusal
  pub after : Asked → List Cell
  pub cells : ℕ → ℕ

-- Two calls with the same text and mode. If one answers, and the other has 9n+128 cells of scratch
-- and room for that answer, then the other answers too, with the same number, the same edge count
-- and the same cells.
abbrev pub SameAnswerFor : (o : Operation) → o.Asked → o.Asked → Type 0
SameAnswerFor o a b =
    o.text a ≡ o.text b
    → o.mode a ≡ o.mode b
    → (n edges : ℕ)
    → o.answer a ≡ accepted_with n edges
    → scratch_for (length (o.text b)) ≤ length (o.scratch b)
    → o.cells n ≤ length (o.out b)
    → (o.answer b ≡ accepted_with n edges) × (take (o.cells n) (o.after b) ≡ take (o.cells n) (o.after a))

-- Any two pools that pass and hold the same words, however they came about: copied, lent with more
-- nodes, or kept from another day.
abbrev pub Demand3AnyFor : Operation → Type 0
Demand3AnyFor o =
    (a b : o.Asked) (v w : Words)
    → meaning (o.pool a) ≡ some v
    → meaning (o.pool b) ≡ some w
    → ((x : List ℕ) → v x ≡ w x)
    → SameAnswerFor o a b

-- Two pools that were reached from fresh ones and hold the same words, with whatever classes.
abbrev pub Demand3For : Operation → Type 0
Demand3For o =
    (a b : o.Asked) (v w : Terms)
    → Reached (o.pool a) v
    → Reached (o.pool b) w
    → ((x : List ℕ) → words_in v x ≡ words_in w x)
    → SameAnswerFor o a b

-- The cut: an answer of n ends takes n cells.
abbrev pub cutting : Operation
cutting =
    record {
      Asked = Call;
      Cell = ℕ;
      mode = λ c. c.mode;
      text = λ c. c.text;
      pool = λ c. c.pool;
      scratch = λ c. c.scratch;
      out = λ c. c.out;
      answer = answer_of;
      after = out_of;
      cells = λ n. n;
    }

abbrev pub SameAnswer : Call → Call → Type 0
SameAnswer a b = SameAnswerFor cutting a b

abbrev pub Demand3Any : Type 0
Demand3Any = Demand3AnyFor cutting

abbrev pub Demand3 : Type 0
Demand3 = Demand3For cutting
