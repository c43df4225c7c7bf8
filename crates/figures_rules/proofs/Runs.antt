-- What a run of texts gives. Assumes nothing.
use Prim.Native.Nat.{ℕ, suc, ◌+◌, ◌≤◌, ◌<◌}
use native.Mathlib.Omega.{arith}
use mathlib.Core.Path.{◌≡◌, refl, sym, ◌∙◌, ap, subst}
use mathlib.Core.Bool.{Bool, true, false, cond}
use mathlib.Core.List.{List, [], ◌∷◌, ◌++◌}
use lib.ListN.{length, length-append, length-replicate}
use lib.Dec.{ltb, eqb}
use borrow.Author.Tests.{le-ltb}
use Rattle.figures_rules.specs.Figures.{texts, tokens, tokens_by, figure, row, zeros, larger, join_cell, joined, max_texts, full, after}
use Rattle.figures_rules.specs.Outcomes.{Outcome, of_outcome, OfText, OfTexts}
use Rattle.figures_rules.specs.Runs.{fed, run, sum, largest, of_each, total, Balanced}
use Rattle.figures_rules.proofs.Rows.{row_long, row_at, same_row}
use Rattle.figures_rules.proofs.Joining.{joined_long, joined_at, joined_comm, joined_assoc, joined_zeros, zeros_at}
use Rattle.figures_rules.proofs.Filling.{Bounded, bounded_joined, bounded_after, full_by_texts, after_joined}
use Rattle.figures_rules.proofs.Outcomes.{outcome_texts, outcome_bounded, outcome_balanced}

-- ---- sums

nothing : sum [] ≡ 0
unfolding sum
nothing = refl

nothing_large : largest [] ≡ 0
unfolding largest
nothing_large = refl

sum_more : (x : ℕ) (l : List ℕ) → sum (x ∷ l) ≡ x + sum l
unfolding sum
sum_more x l = refl

largest_more : (x : ℕ) (l : List ℕ) → largest (x ∷ l) ≡ larger x (largest l)
unfolding largest
largest_more x l = refl

pub total_long : (os : List Outcome) → length (total os) ≡ 16
unfolding total
total_long os = row_long (λ (i : ℕ). cond (eqb i 9) (largest (of_each i os)) (sum (of_each i os)))

pub total_at : (os : List Outcome) (i : ℕ) → i < 16 → figure (total os) i ≡ cond (eqb i 9) (largest (of_each i os)) (sum (of_each i os))
unfolding total
total_at os i h = row_at (λ (i : ℕ). cond (eqb i 9) (largest (of_each i os)) (sum (of_each i os))) i h

total_none : total [] ≡ zeros
total_none = same_row (total []) zeros (total_long []) (length-replicate {A = ℕ} 16 0) (λ i h. total_at [] i h ∙ none (eqb i 9) ∙ sym (zeros_at i))
  where
    none : (t : Bool) → cond t (largest []) (sum []) ≡ 0
    none true = nothing_large
    none false = nothing

total_more : (o : Outcome) (os : List Outcome) → total (o ∷ os) ≡ joined (of_outcome o) (total os)
total_more o os =
    same_row (total (o ∷ os)) (joined (of_outcome o) (total os)) (total_long (o ∷ os)) (joined_long (of_outcome o) (total os))
    (λ i h. total_at (o ∷ os) i h ∙ more i (eqb i 9) ∙ ap (join_cell i (figure (of_outcome o) i)) (sym (total_at os i h)) ∙ sym (joined_at (of_outcome o) (total os) i h))
  where
    more : (i : ℕ) (t : Bool) → cond t (largest (of_each i (o ∷ os))) (sum (of_each i (o ∷ os)))
        ≡ cond t (larger (figure (of_outcome o) i) (cond t (largest (of_each i os)) (sum (of_each i os)))) (figure (of_outcome o) i + cond t (largest (of_each i os)) (sum (of_each i os)))
    more i true = largest_more (figure (of_outcome o) i) (of_each i os)
    more i false = sum_more (figure (of_outcome o) i) (of_each i os)

pub total_both : (xs ys : List Outcome) → total (xs ++ ys) ≡ joined (total xs) (total ys)
total_both [] ys = sym (ap (λ (l : List ℕ). joined l (total ys)) total_none ∙ joined_zeros (total ys) (total_long ys))
total_both (x ∷ xs) ys =
    total_more x (xs ++ ys) ∙ ap (joined (of_outcome x)) (total_both xs ys) ∙ sym (joined_assoc (of_outcome x) (total xs) (total ys))
    ∙ sym (ap (λ (l : List ℕ). joined l (total ys)) (total_more x xs))

-- ---- a run gives the sums

zeros_bounded : Bounded zeros
zeros_bounded = record { each = λ i h. omega (arith, zeros_at i) }

fed_bounded : (a : List ℕ) (os : List Outcome) → Bounded a → OfTexts os → Bounded (fed a os)
unfolding fed
fed_bounded a [] p h = p
fed_bounded a (o ∷ os) p h = fed_bounded (after a (of_outcome o)) os (bounded_after p (outcome_bounded o h.0)) h.1

pub run_bounded : (os : List Outcome) → OfTexts os → Bounded (run os)
run_bounded os h = fed_bounded zeros os zeros_bounded h

module _ {a : List ℕ} (p : Bounded a) (o : Outcome) (h : OfText o) (l : figure a texts + 1 ≤ max_texts) where
  one_more : after a (of_outcome o) ≡ joined a (of_outcome o)
  one_more = after_joined a (of_outcome o) (full_by_texts p (outcome_bounded o h) ∙ le-ltb max_texts (figure a texts + figure (of_outcome o) texts) (omega (arith, outcome_texts o)))

  texts_more : figure (joined a (of_outcome o)) texts ≡ figure a texts + 1
  texts_more = joined_at a (of_outcome o) 0 (omega arith) ∙ ap (λ (x : ℕ). figure a texts + x) (outcome_texts o)

joined_none : (a : List ℕ) → length a ≡ 16 → joined a (total []) ≡ a
joined_none a l = ap (joined a) total_none ∙ joined_comm a zeros ∙ joined_zeros a l

fed_total : (a : List ℕ) (os : List Outcome) → length a ≡ 16 → Bounded a → OfTexts os → figure a texts + length os ≤ max_texts → fed a os ≡ joined a (total os)
unfolding fed
fed_total a [] l p h t = sym (joined_none a l)
fed_total a (o ∷ os) l p h t =
    let b = joined a (of_outcome o) in
    let t' : figure a texts + 1 ≤ max_texts = omega arith in
    ap (λ (x : List ℕ). fed x os) (one_more p o h.0 t')
    ∙ fed_total b os (joined_long a (of_outcome o)) (bounded_joined p (outcome_bounded o h.0)) h.1 (omega (arith, texts_more p o h.0 t'))
    ∙ joined_assoc a (of_outcome o) (total os) ∙ ap (joined a) (sym (total_more o os))

pub run_total : (os : List Outcome) → OfTexts os → length os ≤ max_texts → run os ≡ total os
run_total os h l =
    fed_total zeros os (length-replicate {A = ℕ} 16 0) zeros_bounded h (omega (arith, zeros_at 0)) ∙ joined_zeros (total os) (total_long os)

-- ---- batches

pub texts_both : (xs ys : List Outcome) → OfTexts xs → OfTexts ys → OfTexts (xs ++ ys)
texts_both [] ys h k = k
texts_both (x ∷ xs) ys h k = (h.0, texts_both xs ys h.1 k)

module _ (xs ys : List Outcome) (h : OfTexts xs) (k : OfTexts ys) where
  pub runs_joined : length xs + length ys ≤ max_texts → joined (run xs) (run ys) ≡ run (xs ++ ys)
  runs_joined l =
      (λ i. joined (run_total xs h (omega arith) i) (run_total ys k (omega arith) i)) ∙ sym (total_both xs ys)
      ∙ sym (run_total (xs ++ ys) (texts_both xs ys h k) (omega (arith, length-append xs ys)))

  -- 13 exactly if texts would pass
  pub runs_full : full (run xs) (run ys) ≡ ltb max_texts (figure (run xs) texts + figure (run ys) texts)
  runs_full = full_by_texts (run_bounded xs h) (run_bounded ys k)

pub run_full : (xs : List Outcome) (o : Outcome) → OfTexts xs → OfText o → full (run xs) (of_outcome o) ≡ ltb max_texts (figure (run xs) texts + 1)
run_full xs o h k = full_by_texts (run_bounded xs h) (outcome_bounded o k) ∙ ap (λ (x : ℕ). ltb max_texts (figure (run xs) texts + x)) (outcome_texts o)

-- ---- reasons sum to tokens

module _ (a b : List ℕ) (p : Balanced a) (q : Balanced b) where
  pub balanced_joined : Balanced (joined a b)
  balanced_joined =
      omega (arith, p, q, joined_at a b 2 (omega arith), joined_at a b 3 (omega arith), joined_at a b 4 (omega arith), joined_at a b 5 (omega arith), joined_at a b 6 (omega arith), joined_at a b 7 (omega arith))

  pub balanced_after : Balanced (after a b)
  unfolding after
  balanced_after = go (full a b)
    where
      go : (t : Bool) → Balanced (cond t a (joined a b))
      go true = p
      go false = balanced_joined

pub fed_balanced : (a : List ℕ) (os : List Outcome) → Balanced a → OfTexts os → Balanced (fed a os)
unfolding fed
fed_balanced a [] p h = p
fed_balanced a (o ∷ os) p h = fed_balanced (after a (of_outcome o)) os (balanced_after a (of_outcome o) p (outcome_balanced o h.0)) h.1

pub run_balanced : (os : List Outcome) → OfTexts os → Balanced (run os)
run_balanced os h = fed_balanced zeros os refl h
