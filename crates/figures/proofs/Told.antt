-- What is told of a text, and its figures. Assumes nothing.
use Rattle.std.specs.Prelude.{Result, Ok, Err}
use Rattle.newmm_rules.specs.declared.Ends.{Ends}
use Prim.Native.Nat.{ℕ, ◌+◌, ◌*◌, ◌≤◌}
use native.Mathlib.Omega.{arith}
use mathlib.Core.Path.{◌≡◌, refl, sym, ◌∙◌, ap, subst}
use mathlib.Core.Bool.{Bool, true, false, cond}
use mathlib.Core.List.{List, [], ◌∷◌, ◌++◌, map}
use lib.ListN.{length, take, length-map}
use lib.Dec.{ltb, eqb}
use borrow.Author.Tests.{ltb-false}
use Rattle.refusal.specs.declared.Refusal.{Refusal}
use Rattle.refusal.specs.Numbers.{number_of}
use Rattle.refusal.specs.Answers.{Cause, answer, numbers}
use Rattle.refusal.proofs.Order.{not_both}
use Rattle.refusal.proofs.Causes.{none_of}
use Rattle.trie_pool.specs.Meaning.{Words, meaning}
use Rattle.trie_check.specs.Refusals.{held}
use Rattle.newmm_rules.specs.Words.{Given, size, word_ends}
use Rattle.newmm_rules.specs.NonDictionary.{non_thai_at, starts_word, skip_end}
use Rattle.newmm_rules.specs.Claims.{is_nil}
use Rattle.newmm_rules.specs.declared.Mode.{Mode}
use Rattle.newmm_reason_rules.specs.Reasons.{skip_reason, reason_at, Told, told_from}
use Rattle.newmm_reason_rules.proofs.Reasons.{small}
use Rattle.newmm_answers.specs.Answers.{accepted_with, given, plain_cut, cut_of, cut_causes, accepts, told}
use Rattle.newmm_answers.specs.Calls.{Call, call}
use Rattle.newmm_answers.proofs.Cuts.{few_edges}
use Rattle.newmm_answers.proofs.Told.{told_ends, told_refused}
use Rattle.newmm_many_answers.specs.Turns.{ends_told}
use Rattle.newmm_reasons_answers.specs.Told.{moved, told_part, told_parts, told_of}
use Rattle.newmm_reasons_answers.specs.Answers.{pair_room}
use Rattle.newmm_reasons_answers.specs.inner.Cells.{cells_of, Tells}
use Rattle.newmm_reasons_answers.proofs.Told.{map_two, few_told, Small, told_small}
use Rattle.newmm_reasons_answers.proofs.Cells.{reason_back}
use Rattle.newmm_told.proofs.Told.{Came, came, told_fits, told_cells}
use Rattle.figures_rules.specs.Outcomes.{of_cut, of_refused, of_outcome, Reason, Reasons, OfText}
use Rattle.figures_cells.specs.inner.Reasons.{reasons_in}
use Rattle.figures.specs.Calls.{outcome, reasons_told, outcome_of, text_figures}
use Rattle.figures.specs.inner.Counting.{figures_in, Countable}

-- ---- every token has a reason

a_reason : (g : Given) (b : ℕ) → 1 ≤ reason_at g b
unfolding reason_at skip_reason
a_reason g b = go (is_nil (word_ends g b)) (eqb (non_thai_at g b) 0) (ltb (skip_end g b) (size g)) (starts_word g (skip_end g b))
  where
    go : (n r l w : Bool) → 1 ≤ cond n (cond r (cond l (cond w 3 4) 5) 2) 1
    go false r l w = omega arith
    go true false l w = omega arith
    go true true false w = omega arith
    go true true true false = omega arith
    go true true true true = omega arith

two : (l m : List ℕ) → Reasons l → Reasons m → Reasons (l ++ m)
two [] m h k = k
two (x ∷ l) m h k = (h.0, two l m h.1 k)

module _ (words : Words) where
  part_reasons : (start : ℕ) (part : List ℕ) → Reasons (reasons_told (told_part words start part))
  unfolding told_part told_from
  part_reasons start part = go (given words part) 0 (plain_cut words part).ends
    where
      go : (g : Given) (b : ℕ) (es : List ℕ) → Reasons (reasons_told (map (moved start) (told_from g b es)))
      go g b [] = tt
      go g b (e ∷ es) = (record { least = a_reason g b; most = small g b }, go g e es)

  parts_reasons : (start : ℕ) (parts : List (List ℕ)) → Reasons (reasons_told (told_parts words start parts))
  unfolding told_parts
  parts_reasons start [] = tt
  parts_reasons start (part ∷ parts) =
      subst Reasons (sym (map_two (λ (t : Told). t.reason) (told_part words start part) (told_parts words (start + length part) parts)))
      (two (reasons_told (told_part words start part)) (reasons_told (told_parts words (start + length part) parts)) (part_reasons start part) (parts_reasons (start + length part) parts))

  pub told_reasons : (mode : Mode) (text : List ℕ) → Reasons (reasons_told (told_of mode words text))
  unfolding told_of
  told_reasons mode text = parts_reasons 0 _

-- the reasons stand in the cells
in_cells : (ts : List Told) → Small ts → reasons_in (cells_of ts) ≡ reasons_told ts
in_cells [] s = refl
in_cells (t ∷ ts) s = (λ i. reason_back t s.0 i ∷ in_cells ts s.1 i)

-- ---- a refused text has one of the numbers 1 to 6

abbrev EachText : List Cause → Type 0
EachText [] = Unit {0}
EachText (q ∷ qs) = ((1 ≤ number_of q.refusal) × (number_of q.refusal ≤ 6)) × EachText qs

number_fits : (rs : List Cause) (n : ℕ) (r : Refusal) → EachText rs → answer rs n ≡ Err r → (1 ≤ number_of r) × (number_of r ≤ 6)
number_fits [] n r e h = not_both h
number_fits (q ∷ rs) n r e h = go q.holds h (number_fits rs n r e.1)
  where
    same : ◌≡◌ {A = Result ℕ Refusal} (Err q.refusal) (Err r) → q.refusal ≡ r
    same k = cc

    go : (b : Bool) → cond b (Err q.refusal) (answer rs n) ≡ Err r → (answer rs n ≡ Err r → (1 ≤ number_of r) × (number_of r ≤ 6)) → (1 ≤ number_of r) × (number_of r ≤ 6)
    go true k ih = subst (λ (x : Refusal). (1 ≤ number_of x) × (number_of x ≤ 6)) (same k) e.0
    go false k ih = ih k

module _ (mode : Mode) (text pool : List ℕ) (cells room : ℕ) where
  abbrev words : Words
  words = held (meaning pool)

  each : EachText (cut_causes mode text (meaning pool) cells room)
  each = ((omega arith, omega arith), ((omega arith, omega arith), ((omega arith, omega arith), ((omega arith, omega arith), ((omega arith, omega arith), tt)))))

  number_in_bounds : (r : Refusal) → accepts mode text (meaning pool) cells room ≡ Err r → (1 ≤ number_of r) × (number_of r ≤ 6)
  number_in_bounds r h = number_fits (cut_causes mode text (meaning pool) cells room) (length (cut_of mode words text).ends) r each h

  -- the outcome of a text
  outcome_fits : OfText (outcome (accepts mode text (meaning pool) cells room) (length text) (reasons_told (told_of mode words text)) (cut_of mode words text).edges)
  outcome_fits = go (accepts mode text (meaning pool) cells room) refl
    where
      go : (x : Result ℕ Refusal) → accepts mode text (meaning pool) cells room ≡ x → OfText (outcome x (length text) (reasons_told (told_of mode words text)) (cut_of mode words text).edges)
      go (Ok n) h =
          let q = none_of (cut_causes mode text (meaning pool) cells room) (length (cut_of mode words text).ends) n h in
          let short = ltb-false 65535 (length text) q.0 in (
            short,
            omega (arith, few_told words text mode, length-map (told_of mode words text) (λ (t : Told). t.reason)),
            omega (arith, short, few_edges mode words text),
            told_reasons words mode text,
          )
      go (Err r) h = number_in_bounds r h

-- every outcome of a call is a text's
pub outcome_of_text : (c : Call) → OfText (outcome_of c)
outcome_of_text c = outcome_fits c.mode c.text c.pool (length c.scratch) (pair_room c.out)

-- ---- what stands in scratch when the text is told

module _ (mode : Mode) (text pool scratch : List ℕ) (room : ℕ) where
  abbrev toks : List Told
  toks = told_of mode (held (meaning pool)) text

  abbrev edges : ℕ
  edges = (cut_of mode (held (meaning pool)) text).edges

  abbrev took : Result ℕ Refusal
  took = accepts mode text (meaning pool) (length scratch) room

  module _ {after : List ℕ} {told' : Result Ends Refusal} (t : Tells text (meaning pool) scratch room mode told' after) where
    took_k : (k e : ℕ) → told' ≡ accepted_with k e → (took ≡ Ok k) × (edges ≡ e)
    took_k k e h = told_ends took edges k e (sym t.0 ∙ h)

    here : (k e : ℕ) → told' ≡ accepted_with k e → Came mode text (meaning pool) scratch after room k
    here k e h = came t (sym (ap ends_told h))

    reasons_here : (k e : ℕ) → told' ≡ accepted_with k e → reasons_in (take k after) ≡ reasons_told toks
    reasons_here k e h = ap reasons_in (told_cells (here k e h) k (took_k k e h).0) ∙ in_cells toks (told_small (held (meaning pool)) mode text)

    pub countable : Countable told' after
    countable =
        record {
          cut = λ k e h. (told_fits (here k e h), subst Reasons (sym (reasons_here k e h)) (told_reasons (held (meaning pool)) mode text));
          refused = λ r h. number_in_bounds mode text pool (length scratch) room r (told_refused took edges r (sym t.0 ∙ h));
        }

    -- the figures that are counted are the text's
    pub figures_are : figures_in told' (length text) after ≡ of_outcome (outcome took (length text) (reasons_told toks) edges)
    figures_are = go told' refl
      where
        go : (x : Result Ends Refusal) → told' ≡ x → figures_in told' (length text) after ≡ of_outcome (outcome took (length text) (reasons_told toks) edges)
        go (Ok made) h =
            ap (λ (x : Result Ends Refusal). figures_in x (length text) after) h ∙ (λ i. of_cut (length text) (reasons_here made.ends made.edges h i) (sym (took_k made.ends made.edges h).1 i))
            ∙ sym (ap (λ (x : Result ℕ Refusal). of_outcome (outcome x (length text) (reasons_told toks) edges)) (took_k made.ends made.edges h).0)
        go (Err r) h =
            ap (λ (x : Result Ends Refusal). figures_in x (length text) after) h
            ∙ sym (ap (λ (x : Result ℕ Refusal). of_outcome (outcome x (length text) (reasons_told toks) edges)) (told_refused took edges r (sym t.0 ∙ h)))
