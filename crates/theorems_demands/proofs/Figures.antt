-- Release figures: runs, batches, refusal 13, and demand 3. Assumes nothing.
use Rattle.std.specs.Prelude.{Result, Err}
use Rattle.refusal.specs.declared.Refusal.{Refusal}
use Prim.Native.Nat.{ℕ, zero, suc, ◌+◌, ◌*◌, ◌≤◌, ◌<◌}
use native.Mathlib.Omega.{arith}
use mathlib.Core.Path.{◌≡◌, refl, sym, ◌∙◌, ap, subst}
use mathlib.Core.Bool.{Bool, true, false, cond, ◌&&◌}
use mathlib.Core.List.{List, [], ◌∷◌, ◌++◌, map}
use lib.ListN.{length, take, length-map}
use lib.Dec.{ltb, eqb}
use borrow.Author.Tests.{le-leb, le-ltb, eq-eqb, ne_eqb}
use Rattle.refusal.specs.declared.Refusal.TheVariants.{FiguresFull}
use Rattle.trie_pool.specs.Meaning.{meaning}
use Rattle.trie_check.specs.Refusals.{held}
use Rattle.newmm_answers.specs.Answers.{accepted_with, cut_of, accepts}
use Rattle.newmm_answers.specs.Calls.{Call}
use Rattle.newmm_answers.proofs.Told.{told_refused}
use Rattle.newmm_reasons_answers.specs.Told.{told_of}
use Rattle.newmm_reasons_answers.specs.Answers.{pair_room}
use Rattle.newmm_reasons_answers.specs.Calls.{reasons_answer_of, pairs_of}
use Rattle.newmm_reasons_answers.proofs.Told.{map_two}
use Rattle.figures_rules.specs.Figures.{texts, figure, zeros, larger, join_cell, joined, max_texts, full, after}
use Rattle.figures_rules.specs.Outcomes.{Outcome, refused, of_refused, of_outcome, OfText, OfTexts}
use Rattle.figures_rules.specs.Runs.{fed, run}
use Rattle.figures_rules.proofs.Joining.{joined_at, joined_comm, joined_assoc, zeros_at, joined_zeros}
use Rattle.figures_rules.proofs.Outcomes.{outcome_texts}
use Rattle.figures_rules.proofs.Runs.{run_total, runs_joined, runs_full, run_full, run_balanced}
use Rattle.figures.specs.Calls.{outcome, reasons_told, text_figures, feed_answer, pairs_fed}
use Rattle.figures.proofs.Told.{outcome_of_text}
use Rattle.theorems_demands.specs.Demand3.{SameAnswerFor}
use Rattle.theorems_demands.specs.Reasons.{telling}
use Rattle.theorems_demands.specs.Figures.{Text, called, refused_before, became, outcomes, RefusedIsFed, RunGivesSums, ReasonsSum, RefusedAdds, Commutative, Associative, Neutral, Batches, ThirteenIfFull, ThirteenOnlyIfFull, ThirteenByTexts, JoinThirteenByTexts, FeedCall, feeding, Aside, Demand3AnyFigures, Demand3Figures}
use Rattle.theorems_demands.proofs.Reasons.{demand_3_any_reasons, demand_3_reasons}

-- ---- runs

one_text : (t : Text) → OfText (became t)
one_text (called c) = outcome_of_text c
one_text (refused_before number least most) = (least, most)

all_texts : (ts : List Text) → OfTexts (outcomes ts)
all_texts [] = tt
all_texts (t ∷ ts) = (one_text t, all_texts ts)

many : (ts : List Text) → length (outcomes ts) ≡ length ts
many ts = length-map ts became

pub run_gives_sums : RunGivesSums
run_gives_sums ts h = run_total (outcomes ts) (all_texts ts) (omega (arith, many ts))

pub reasons_sum : ReasonsSum
reasons_sum ts = run_balanced (outcomes ts) (all_texts ts)

pub refused_is_fed : RefusedIsFed
refused_is_fed figures number h l = ap (λ (t : Bool). cond t (after figures (of_refused number)) figures) (λ i. le-leb 1 number h i && le-leb number 6 l i)

-- ---- joining

-- a text more is one more at most
after_texts : (a : List ℕ) (o : Outcome) → figure (after a (of_outcome o)) texts ≤ figure a texts + 1
unfolding after
after_texts a o = go (full a (of_outcome o))
  where
    go : (t : Bool) → figure (cond t a (joined a (of_outcome o))) texts ≤ figure a texts + 1
    go true = omega arith
    go false = omega (arith, joined_at a (of_outcome o) 0 (omega arith), outcome_texts o)

fed_texts : (a : List ℕ) (os : List Outcome) → figure (fed a os) texts ≤ figure a texts + length os
unfolding fed
fed_texts a [] = omega arith
fed_texts a (o ∷ os) = omega (arith, after_texts a o, fed_texts (after a (of_outcome o)) os)

run_texts : (ts : List Text) → figure (run (outcomes ts)) texts ≤ length ts
run_texts ts = omega (arith, fed_texts zeros (outcomes ts), zeros_at 0, many ts)

pub commutative : Commutative
commutative = joined_comm

pub associative : Associative
associative = joined_assoc

pub neutral : Neutral
neutral = joined_zeros

pub batches : Batches
batches xs ys h =
    let h' : length (outcomes xs) + length (outcomes ys) ≤ max_texts = omega (arith, many xs, many ys) in
    let joins = runs_joined (outcomes xs) (outcomes ys) (all_texts xs) (all_texts ys) h' in
    let other = runs_joined (outcomes ys) (outcomes xs) (all_texts ys) (all_texts xs) (omega arith) in
    record {
      accepted = runs_full (outcomes xs) (outcomes ys) (all_texts xs) (all_texts ys)
          ∙ le-ltb max_texts (figure (run (outcomes xs)) texts + figure (run (outcomes ys)) texts)
          (omega (arith, h, run_texts xs, run_texts ys));
      in_order = joins ∙ ap run (sym (map_two became xs ys));
      in_other_order = joined_comm (run (outcomes xs)) (run (outcomes ys)) ∙ other ∙ ap run (sym (map_two became ys xs));
    }

-- ---- a refused text

refused_none : (r i : ℕ) → i < 16 → (i ≡ 0 → ⊥) → (i ≡ 9 + r → ⊥) → figure (of_refused r) i ≡ 0
unfolding of_refused
refused_none r zero h n m = absurd (n refl)
refused_none r (suc zero) h n m = refl
refused_none r (suc (suc zero)) h n m = refl
refused_none r (suc (suc (suc zero))) h n m = refl
refused_none r (suc (suc (suc (suc zero)))) h n m = refl
refused_none r (suc (suc (suc (suc (suc zero))))) h n m = refl
refused_none r (suc (suc (suc (suc (suc (suc zero)))))) h n m = refl
refused_none r (suc (suc (suc (suc (suc (suc (suc zero))))))) h n m = refl
refused_none r (suc (suc (suc (suc (suc (suc (suc (suc zero)))))))) h n m = refl
refused_none r (suc (suc (suc (suc (suc (suc (suc (suc (suc zero))))))))) h n m = refl
refused_none r (suc (suc (suc (suc (suc (suc (suc (suc (suc (suc zero)))))))))) h n m = ap (λ (t : Bool). cond t 1 0) (ne_eqb r 1 (λ e. m (omega arith)))
refused_none r (suc (suc (suc (suc (suc (suc (suc (suc (suc (suc (suc zero))))))))))) h n m = ap (λ (t : Bool). cond t 1 0) (ne_eqb r 2 (λ e. m (omega arith)))
refused_none r (suc (suc (suc (suc (suc (suc (suc (suc (suc (suc (suc (suc zero)))))))))))) h n m = ap (λ (t : Bool). cond t 1 0) (ne_eqb r 3 (λ e. m (omega arith)))
refused_none r (suc (suc (suc (suc (suc (suc (suc (suc (suc (suc (suc (suc (suc zero))))))))))))) h n m = ap (λ (t : Bool). cond t 1 0) (ne_eqb r 4 (λ e. m (omega arith)))
refused_none r (suc (suc (suc (suc (suc (suc (suc (suc (suc (suc (suc (suc (suc (suc zero)))))))))))))) h n m = ap (λ (t : Bool). cond t 1 0) (ne_eqb r 5 (λ e. m (omega arith)))
refused_none r (suc (suc (suc (suc (suc (suc (suc (suc (suc (suc (suc (suc (suc (suc (suc zero))))))))))))))) h n m = ap (λ (t : Bool). cond t 1 0) (ne_eqb r 6 (λ e. m (omega arith)))
refused_none r (suc (suc (suc (suc (suc (suc (suc (suc (suc (suc (suc (suc (suc (suc (suc (suc i)))))))))))))))) h n m = absurd (omega arith)

refused_once : (r : ℕ) → 1 ≤ r → r ≤ 6 → figure (of_refused r) (9 + r) ≡ 1
unfolding of_refused
refused_once zero h l = absurd (omega arith)
refused_once (suc zero) h l = refl
refused_once (suc (suc zero)) h l = refl
refused_once (suc (suc (suc zero))) h l = refl
refused_once (suc (suc (suc (suc zero)))) h l = refl
refused_once (suc (suc (suc (suc (suc zero))))) h l = refl
refused_once (suc (suc (suc (suc (suc (suc zero)))))) h l = refl
refused_once (suc (suc (suc (suc (suc (suc (suc r))))))) h l = absurd (omega arith)

refused_text : (r : ℕ) → figure (of_refused r) 0 ≡ 1
unfolding of_refused
refused_text r = refl

-- nothing is added
cell_same : (i x : ℕ) → join_cell i x 0 ≡ x
cell_same i x = go (eqb i 9)
  where
    go : (t : Bool) → cond t (larger x 0) (x + 0) ≡ x
    go true = ap (λ (t : Bool). cond t 0 x) (le-ltb x 0 (omega arith))
    go false = omega arith

cell_more : (i x : ℕ) → (i ≡ 9 → ⊥) → join_cell i x 1 ≡ x + 1
cell_more i x n = ap (λ (t : Bool). cond t (larger x 1) (x + 1)) (ne_eqb i 9 n)

pub refused_adds : RefusedAdds
refused_adds old number h l =
    record {
      one_text = joined_at old (of_refused number) 0 (omega arith) ∙ ap (λ (y : ℕ). figure old 0 + y) (refused_text number);
      its_count = joined_at old (of_refused number) (9 + number) (omega arith) ∙ ap (join_cell (9 + number) (figure old (9 + number))) (refused_once number h l)
          ∙ cell_more (9 + number) (figure old (9 + number)) (λ e. omega arith);
      nothing_else = λ i k n m. joined_at old (of_refused number) i k ∙ ap (join_cell i (figure old i)) (refused_none number i k n m) ∙ cell_same i (figure old i);
    }

-- ---- refusal 13

module _ (a : List ℕ) (c : Call) where
  full_answer : full a (text_figures c) ≡ true → feed_answer a c ≡ Err FiguresFull
  full_answer e = ap (λ (t : Bool). cond t (Err FiguresFull) (reasons_answer_of c)) e

  fed_answer : full a (text_figures c) ≡ false → feed_answer a c ≡ reasons_answer_of c
  fed_answer e = ap (λ (t : Bool). cond t (Err FiguresFull) (reasons_answer_of c)) e

  fed_pairs : full a (text_figures c) ≡ false → pairs_fed a c ≡ pairs_of c
  fed_pairs e = ap (λ (t : Bool). cond t c.out (pairs_of c)) e

  -- a call that isn't refused with 13
  not_full : (feed_answer a c ≡ Err FiguresFull → ⊥) → full a (text_figures c) ≡ false
  not_full n = go (full a (text_figures c)) refl
    where
      go : (t : Bool) → full a (text_figures c) ≡ t → full a (text_figures c) ≡ false
      go true e = absurd (n (full_answer e))
      go false e = e

  ends_not_full : (n edges : ℕ) → feed_answer a c ≡ accepted_with n edges → full a (text_figures c) ≡ false
  ends_not_full n edges h = not_full (λ e. apart (sym h ∙ e))
    where
      apart : accepted_with n edges ≡ Err FiguresFull → ⊥
      apart q = let z : ◌≡◌ {A = ℕ} 0 1 = cc in omega arith

pub thirteen_if_full : ThirteenIfFull
thirteen_if_full a c = (full_answer a c, fed_answer a c)

-- a text has one of the refusals 1 to 6
no_thirteen : (c : Call) → reasons_answer_of c ≡ Err FiguresFull → ⊥
no_thirteen c h =
    let took = told_refused (accepts c.mode c.text (meaning c.pool) (length c.scratch) (pair_room c.out)) (cut_of c.mode (held (meaning c.pool)) c.text).edges FiguresFull h in
    let fits : OfText (refused 13) =
    subst (λ (x : Result ℕ Refusal). OfText (outcome x (length c.text) (reasons_told (told_of c.mode (held (meaning c.pool)) c.text)) (cut_of c.mode (held (meaning c.pool)) c.text).edges)) took (outcome_of_text c) in
    omega (arith, fits.1)

pub thirteen_only_if_full : ThirteenOnlyIfFull
thirteen_only_if_full a c h = go (full a (text_figures c)) refl
  where
    go : (t : Bool) → full a (text_figures c) ≡ t → full a (text_figures c) ≡ true
    go true e = e
    go false e = absurd (no_thirteen c (sym (fed_answer a c e) ∙ h))

pub thirteen_by_texts : ThirteenByTexts
thirteen_by_texts ts t = run_full (outcomes ts) (became t) (all_texts ts) (one_text t)

pub join_thirteen_by_texts : JoinThirteenByTexts
join_thirteen_by_texts xs ys = runs_full (outcomes xs) (outcomes ys) (all_texts xs) (all_texts ys)

-- ---- demand 3

same_fed : (a b : FeedCall) → (Aside b → ⊥) → SameAnswerFor telling a.asked b.asked → SameAnswerFor feeding a b
same_fed a b aside d text mode n edges h scratch room =
    let f = ends_not_full a.figures a.asked n edges h in
    let g = not_full b.figures b.asked aside in
    let e = d text mode n edges (sym (fed_answer a.figures a.asked f) ∙ h) scratch room in (
      fed_answer b.figures b.asked g ∙ e.0,
      ap (take (2 * n)) (fed_pairs b.figures b.asked g) ∙ e.1 ∙ sym (ap (take (2 * n)) (fed_pairs a.figures a.asked f)),
    )

pub demand_3_any_figures : Demand3AnyFigures
demand_3_any_figures a b v w ma mb same aside = same_fed a b aside (demand_3_any_reasons a.asked b.asked v w ma mb same)

pub demand_3_figures : Demand3Figures
demand_3_figures a b v w ra rb same aside = same_fed a b aside (demand_3_reasons a.asked b.asked v w ra rb same)
