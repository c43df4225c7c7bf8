-- MANY TEXTS IN ONE CALL: what a caller may rely on, text by text. Each text is answered as a
-- single call would answer it. Each statement is said once for all calls with many texts (its name
-- ends in `For`), then for the public cut and for the cut with reasons.
use Rattle.std.specs.Prelude.{ℕ, zero, suc, ◌+◌, ◌*◌, ◌-◌, ◌≤◌, ◌<◌, ◌≡◌, List, [], ◌∷◌, ◌++◌, map, length, get_or, take, drop, replicate, Result, Ok}
use Rattle.std.proofs.Math.Option.{Option, some}
use Rattle.newmm_rules.specs.declared.Ends.{Ends}
use Rattle.refusal.specs.declared.Refusal.{Refusal}
use Rattle.refusal.specs.Answers.{answer}
use Rattle.trie_pool.specs.Meaning.{Words, Terms, words_in, meaning}
use Rattle.newmm_rules.specs.declared.Mode.{Mode}
use Rattle.newmm_answers.specs.Answers.{scratch_for, first_causes}
use Rattle.newmm_answers.specs.Calls.{Call, call, answer_of, out_of}
use Rattle.newmm_reasons_answers.specs.Calls.{reasons_answer_of, pairs_of}
use Rattle.newmm_many_answers.specs.Texts.{texts_of}
use Rattle.newmm_many_answers.specs.Turns.{Singly, cells_of, ends_told}
use Rattle.newmm_many_answers.specs.Calls.{ManyCall, many_answer, turns_by, answers_by, out_by, scratch_by, cuts_one, reasons_one}
use Rattle.theorems_demands.specs.Demand3.{Reached}

-- A call with many texts, by the single call that it stands for: `one` is the single call as the
-- contract has it; `answer` and `after` are what that call answers, and what its output then holds;
-- `means` is what the pool means to it. An answer of n takes so many cells of the output.
pub record Form : Type 0 where
  pub one : ManyCall → Singly
  pub answer : Call → Result Ends Refusal
  pub after : Call → List ℕ
  pub means : List ℕ → Option Words
  pub cells : ℕ → ℕ

-- The cut of many texts: an answer of n ends takes n cells.
abbrev pub cuts_form : Form
cuts_form = record { one = cuts_one; answer = answer_of; after = out_of; means = meaning; cells = λ n. n }

-- The cut of many texts with reasons: an answer of n records takes 2n cells.
abbrev pub reasons_form : Form
reasons_form =
    record { one = reasons_one; answer = reasons_answer_of; after = pairs_of; means = meaning; cells = λ n. 2 * n }

-- Text i goes from the end of the text before it, or from 0, to its own end.
abbrev pub text_at : ManyCall → ℕ → List ℕ
text_at c i = take (get_or c.ends i 0 - get_or (0 ∷ c.ends) i 0) (drop (get_or (0 ∷ c.ends) i 0) c.row)

-- The four cells of text i: number, count, edges, detail.
abbrev pub cells_at : ℕ → List ℕ → List ℕ
cells_at i answers = take 4 (drop (4 * i) answers)

-- Where the cells of text i start: behind as many as the counts of the texts before it ask for.
abbrev pub counts_before : ℕ → List ℕ → ℕ
counts_before zero answers = 0
counts_before (suc i) answers = get_or answers 1 0 + counts_before i (drop 4 answers)

abbrev pub start_of : Form → ManyCall → ℕ → ℕ
start_of f c i = f.cells (counts_before i (answers_by (f.one c) c))

-- The single call for text i, lent the output from there on.
abbrev pub single_call : Form → ManyCall → ℕ → Call
single_call f c i = call (text_at c i) c.pool (drop (start_of f c i) c.out) c.scratch c.mode

-- how many cells a single call wrote, and which
abbrev pub cells_told : Form → Call → ℕ
cells_told f c = f.cells (ends_told (f.answer c))

abbrev pub wrote_by : Form → Call → List ℕ
wrote_by f c = take (cells_told f c) (f.after c)

-- MANY IS SINGLE: what is told of text i and written for it is what the single call promises.
abbrev pub ManyIsSingleFor : Form → Type 0
ManyIsSingleFor f =
    (c : ManyCall) (n i : ℕ)
    → many_answer c ≡ Ok n
    → i < n
    → (cells_at i (answers_by (f.one c) c) ≡ cells_of (f.answer (single_call f c i)))
    × (take (cells_told f (single_call f c i)) (drop (start_of f c i) (out_by (f.one c) c)) ≡ wrote_by f (single_call f c i))

abbrev pub ManyIsSingle : Type 0
ManyIsSingle = ManyIsSingleFor cuts_form

abbrev pub ManyIsSingleReasons : Type 0
ManyIsSingleReasons = ManyIsSingleFor reasons_form

-- Scratch is all zero if some text came past refusals 2 to 5, and else as it was.
abbrev pub Past5 : Form → ManyCall → ℕ → Type 0
Past5 f c i = answer (first_causes (text_at c i) (f.means c.pool) (length c.scratch)) 0 ≡ Ok 0

abbrev pub ManyScratchFor : Form → Type 0
ManyScratchFor f =
    (c : ManyCall) (n : ℕ)
    → many_answer c ≡ Ok n
    → ((i : ℕ) → i < n → Past5 f c i → scratch_by (f.one c) c ≡ replicate (length c.scratch) 0)
    × (((i : ℕ) → i < n → Past5 f c i → ⊥) → scratch_by (f.one c) c ≡ c.scratch)

abbrev pub ManyScratch : Type 0
ManyScratch = ManyScratchFor cuts_form

abbrev pub ManyScratchReasons : Type 0
ManyScratchReasons = ManyScratchFor reasons_form

-- DEMAND 3 FOR EACH TEXT. Text i of one call and text j of another are the same, in the same mode.
-- If the one is answered with k tokens, and the other call has 9n+128 cells of scratch for its text
-- and room for those tokens, then the other is told the same four cells, with the same ends or
-- pairs.
abbrev pub SameTexts : (f g : Form) → (a b : ManyCall) → (i j : ℕ) → Type 0
SameTexts f g a b i j =
    text_at a i ≡ text_at b j
    → a.mode ≡ b.mode
    → (k edges : ℕ)
    → cells_at i (answers_by (f.one a) a) ≡ 0 ∷ k ∷ edges ∷ 0 ∷ []
    → scratch_for (length (text_at b j)) ≤ length b.scratch
    → start_of g b j + g.cells k ≤ length b.out
    → (cells_at j (answers_by (g.one b) b) ≡ 0 ∷ k ∷ edges ∷ 0 ∷ [])
    × (take (g.cells k) (drop (start_of g b j) (out_by (g.one b) b))
    ≡ take (f.cells k) (drop (start_of f a i) (out_by (f.one a) a)))

-- any text of the one call, and any of the other
abbrev pub AnyTextsSame : (f g : Form) → (a b : ManyCall) → Type 0
AnyTextsSame f g a b =
    (n m i j : ℕ)
    → many_answer a ≡ Ok n
    → many_answer b ≡ Ok m
    → i < n
    → j < m
    → SameTexts f g a b i j

-- Any two pools that pass and hold the same words, however they came about.
abbrev pub Demand3ManyAnyFor : Form → Type 0
Demand3ManyAnyFor f =
    (a b : ManyCall) (v w : Words)
    → f.means a.pool ≡ some v
    → f.means b.pool ≡ some w
    → ((x : List ℕ) → v x ≡ w x)
    → AnyTextsSame f f a b

-- Two pools that were reached from fresh ones and hold the same words, with whatever classes.
abbrev pub Demand3ManyFor : Form → Type 0
Demand3ManyFor f =
    (a b : ManyCall) (v w : Terms)
    → Reached a.pool v
    → Reached b.pool w
    → ((x : List ℕ) → words_in v x ≡ words_in w x)
    → AnyTextsSame f f a b

abbrev pub Demand3ManyAny : Type 0
Demand3ManyAny = Demand3ManyAnyFor cuts_form

abbrev pub Demand3Many : Type 0
Demand3Many = Demand3ManyFor cuts_form

abbrev pub Demand3ManyAnyReasons : Type 0
Demand3ManyAnyReasons = Demand3ManyAnyFor reasons_form

abbrev pub Demand3ManyReasons : Type 0
Demand3ManyReasons = Demand3ManyFor reasons_form

-- A text by itself: a single call with an output and a scratch of its own, the output long enough
-- for as many tokens as the text has characters. There are never more, so that is room enough.
abbrev pub alone : Form → Mode → List ℕ → ℕ → List ℕ → Call
alone f mode pool cells text = call text pool (replicate (f.cells (length text)) 0) (replicate cells 0) mode

-- what was told of a text, and what was written for it: its ends, or its pairs
pub record Told : Type 0 where
  pub text : List ℕ
  pub told : Result Ends Refusal
  pub wrote : List ℕ

abbrev pub told_alone : Form → Mode → List ℕ → ℕ → List ℕ → Told
told_alone f mode pool cells text =
    record {
      text = text;
      told = f.answer (alone f mode pool cells text);
      wrote = wrote_by f (alone f mode pool cells text);
    }

abbrev pub all_wrote : List Told → List ℕ
all_wrote [] = []
all_wrote (t ∷ ts) = t.wrote ++ all_wrote ts

-- what is told of each text of a call by itself
abbrev pub each_alone : Form → ManyCall → List Told
each_alone f c = map (told_alone f c.mode c.pool (length c.scratch)) (texts_of c.row c.ends)

-- ROOM FOR ALL: while what is written for all texts fits, each text is told what it is told by
-- itself, whatever the others are.
abbrev pub RoomForAll : Form → ManyCall → Type 0
RoomForAll f c = length (all_wrote (each_alone f c)) ≤ length c.out

abbrev pub EachByItselfFor : Form → Type 0
EachByItselfFor f =
    (c : ManyCall)
    → RoomForAll f c
    → ((turns_by (f.one c) c).told ≡ map (λ (t : Told). t.told) (each_alone f c))
    × ((turns_by (f.one c) c).out ≡ all_wrote (each_alone f c) ++ drop (length (all_wrote (each_alone f c))) c.out)

abbrev pub EachByItself : Type 0
EachByItself = EachByItselfFor cuts_form

abbrev pub EachByItselfReasons : Type 0
EachByItselfReasons = EachByItselfFor reasons_form

-- the same in another order
pub data Permuted {A : Type 0} : List A → List A → Type 0 where
  none : Permuted [] []
  keep : {x : A} {xs ys : List A} → Permuted xs ys → Permuted (x ∷ xs) (x ∷ ys)
  swap : {x y : A} {xs : List A} → Permuted (x ∷ y ∷ xs) (y ∷ x ∷ xs)
  then : {xs ys zs : List A} → Permuted xs ys → Permuted ys zs → Permuted xs zs

-- THE ORDER OF TEXTS: permuting the texts permutes the answers, each with its text and its ends or
-- pairs, and if there is room for all in one order there is in the other, in an output as long.
abbrev pub OrderOfTextsFor : Form → Type 0
OrderOfTextsFor f =
    (a b : ManyCall)
    → a.mode ≡ b.mode
    → a.pool ≡ b.pool
    → length a.scratch ≡ length b.scratch
    → length a.out ≡ length b.out
    → Permuted (texts_of a.row a.ends) (texts_of b.row b.ends)
    → RoomForAll f a
    → RoomForAll f b × Permuted (each_alone f a) (each_alone f b)

abbrev pub OrderOfTexts : Type 0
OrderOfTexts = OrderOfTextsFor cuts_form

abbrev pub OrderOfTextsReasons : Type 0
OrderOfTextsReasons = OrderOfTextsFor reasons_form
