-- RELEASE FIGURES (02, ticket 14): what is claimed of them.
use Rattle.std.specs.Prelude.{ℕ, ◌+◌, ◌*◌, ◌≤◌, ◌<◌, ◌≡◌, true, false, List, ◌++◌, map, length, ltb, Err}
use Rattle.std.proofs.Math.Option.{some}
use Rattle.refusal.specs.declared.Refusal.TheVariants.{FiguresFull}
use Rattle.trie_pool.specs.Meaning.{Words, Terms, words_in, meaning}
use Rattle.newmm_answers.specs.Calls.{Call}
use Rattle.newmm_reasons_answers.specs.Calls.{reasons_answer_of}
use Rattle.figures_rules.specs.Figures.{texts, figure_count, figure, zeros, joined, max_texts, full, after}
use Rattle.figures_rules.specs.Outcomes.{Outcome, refused, of_refused, of_outcome}
use Rattle.figures_rules.specs.Runs.{run, total, Balanced}
use Rattle.figures.specs.Calls.{outcome_of, text_figures, feed_answer, pairs_fed, refused_after}
use Rattle.theorems_demands.specs.Demand3.{Operation, Reached, SameAnswerFor}

-- A text of a run: it is fed by a call; or it was refused before, and is fed by its refusal's
-- number.
pub data Text : Type 0 where
  called : Call → Text
  refused_before : (number : ℕ) → 1 ≤ number → number ≤ 6 → Text

-- What became of it. The contracts of `feed` and `feed_refused` say that figures are then `after
-- figures (of_outcome ..)` of this (the latter by `RefusedIsFed`), so the figures of texts that were
-- fed to zeros, one after the other, are `run` of these.
abbrev pub became : Text → Outcome
became (called c) = outcome_of c
became (refused_before number least most) = refused number

abbrev pub outcomes : List Text → List Outcome
outcomes ts = map became ts

abbrev pub RefusedIsFed : Type 0
RefusedIsFed =
    (figures : List ℕ) (number : ℕ)
    → 1 ≤ number
    → number ≤ 6
    → refused_after figures number ≡ after figures (of_outcome (refused number))

-- THE SUMS, AND THE LARGEST: what a run of up to 4,294,967,295 texts gives, at any moment.
abbrev pub RunGivesSums : Type 0
RunGivesSums = (ts : List Text) → length ts ≤ max_texts → run (outcomes ts) ≡ total (outcomes ts)

-- REASONS SUM TO TOKENS, in every run.
abbrev pub ReasonsSum : Type 0
ReasonsSum = (ts : List Text) → Balanced (run (outcomes ts))

-- A REFUSED TEXT adds one to texts and one to its refusal's count, and nothing else.
pub record OneRefused (old new : List ℕ) (number : ℕ) : Type 0 where
  pub one_text : figure new texts ≡ figure old texts + 1
  pub its_count : figure new (9 + number) ≡ figure old (9 + number) + 1
  pub nothing_else : (i : ℕ) → i < figure_count → (i ≡ texts → ⊥) → (i ≡ 9 + number → ⊥) → figure new i ≡ figure old i

abbrev pub RefusedAdds : Type 0
RefusedAdds =
    (old : List ℕ) (number : ℕ) → 1 ≤ number → number ≤ 6 → OneRefused old (joined old (of_refused number)) number

-- JOINING is commutative and associative, and zeros change nothing.
abbrev pub Commutative : Type 0
Commutative = (a b : List ℕ) → joined a b ≡ joined b a

abbrev pub Associative : Type 0
Associative = (a b c : List ℕ) → joined (joined a b) c ≡ joined a (joined b c)

abbrev pub Neutral : Type 0
Neutral = (a : List ℕ) → length a ≡ figure_count → joined zeros a ≡ a

-- BATCHES: figures of two batches joined equal those of the batches run as one, in either order.
-- The join is not refused.
pub record AsOne (xs ys : List Text) : Type 0 where
  pub accepted : full (run (outcomes xs)) (run (outcomes ys)) ≡ false
  pub in_order : joined (run (outcomes xs)) (run (outcomes ys)) ≡ run (outcomes (xs ++ ys))
  pub in_other_order : joined (run (outcomes xs)) (run (outcomes ys)) ≡ run (outcomes (ys ++ xs))

abbrev pub Batches : Type 0
Batches = (xs ys : List Text) → length xs + length ys ≤ max_texts → AsOne xs ys

-- THIRTEEN: a call is refused with 13 where its figures would be full, and else is answered as the
-- cut with reasons.
abbrev pub ThirteenIfFull : Type 0
ThirteenIfFull =
    (figures : List ℕ) (c : Call)
    → (full figures (text_figures c) ≡ true → feed_answer figures c ≡ Err FiguresFull)
    × (full figures (text_figures c) ≡ false → feed_answer figures c ≡ reasons_answer_of c)

-- And only there: 13 is given exactly if a figure would pass its limit.
abbrev pub ThirteenOnlyIfFull : Type 0
ThirteenOnlyIfFull =
    (figures : List ℕ) (c : Call)
    → feed_answer figures c ≡ Err FiguresFull
    → full figures (text_figures c) ≡ true

-- For a run's figures that is exactly if texts would pass 4,294,967,295; and so for two runs
-- joined.
abbrev pub ThirteenByTexts : Type 0
ThirteenByTexts =
    (ts : List Text) (t : Text)
    → full (run (outcomes ts)) (of_outcome (became t)) ≡ ltb max_texts (figure (run (outcomes ts)) texts + 1)

abbrev pub JoinThirteenByTexts : Type 0
JoinThirteenByTexts =
    (xs ys : List Text)
    → full (run (outcomes xs)) (run (outcomes ys))
    ≡ ltb max_texts (figure (run (outcomes xs)) texts + figure (run (outcomes ys)) texts)

-- DEMAND 3 FOR FIGURES: as for the cut with reasons, whatever the figures are. It leaves calls
-- refused with 13 aside.
pub record FeedCall : Type 0 where
  pub figures : List ℕ
  pub asked : Call

abbrev pub feeding : Operation
feeding =
    record {
      Asked = FeedCall;
      Cell = ℕ;
      mode = λ c. c.asked.mode;
      text = λ c. c.asked.text;
      pool = λ c. c.asked.pool;
      scratch = λ c. c.asked.scratch;
      out = λ c. c.asked.out;
      answer = λ c. feed_answer c.figures c.asked;
      after = λ c. pairs_fed c.figures c.asked;
      cells = λ n. 2 * n;
    }

abbrev pub Aside : FeedCall → Type 0
Aside c = feed_answer c.figures c.asked ≡ Err FiguresFull

abbrev pub Demand3AnyFigures : Type 0
Demand3AnyFigures =
    (a b : FeedCall) (v w : Words)
    → meaning a.asked.pool ≡ some v
    → meaning b.asked.pool ≡ some w
    → ((x : List ℕ) → v x ≡ w x)
    → (Aside b → ⊥)
    → SameAnswerFor feeding a b

abbrev pub Demand3Figures : Type 0
Demand3Figures =
    (a b : FeedCall) (v w : Terms)
    → Reached a.asked.pool v
    → Reached b.asked.pool w
    → ((x : List ℕ) → words_in v x ≡ words_in w x)
    → (Aside b → ⊥)
    → SameAnswerFor feeding a b
