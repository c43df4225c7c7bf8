-- Many texts in one call: each text as in a single call, scratch, and demand 3. Assumes nothing.
use Rattle.std.specs.Prelude.{Result, Ok, Err}
use Rattle.newmm_rules.specs.declared.Ends.{Ends}
use Prim.Native.Nat.{ℕ, ◌+◌, ◌≤◌, ◌<◌}
use native.Mathlib.Omega.{arith}
use mathlib.Core.Path.{◌≡◌, refl, sym, ◌∙◌, ap}
use mathlib.Core.List.{List, [], ◌∷◌, ◌++◌}
use mathlib.Core.Option.{Option}
use lib.ListN.{length, get_or, take, drop, length-drop}
use Rattle.refusal.specs.declared.Refusal.{Refusal}
use Rattle.refusal.specs.declared.Refusal.TheVariants.{IllFormed, TooManyScalars, NotAScalar, NotADictionary, ScratchTooShort}
use Rattle.refusal.specs.declared.Refusal.TheVariants.{OutputTooShort, WordTooLong, TooFewNodes, BadImage, WrongPosition, BitAboveEnd, LimitsTooLarge, FiguresFull}
use Rattle.refusal.specs.Numbers.{number_of}
use Rattle.refusal.specs.Answers.{answer, output}
use Rattle.trie_pool.specs.Meaning.{Words, words_in, meaning}
use Rattle.trie_pool.proofs.Terms.{means_of}
use Rattle.newmm_answers.specs.Answers.{accepted_with, scratch_for, first_causes}
use Rattle.newmm_answers.specs.Calls.{Call, call}
use Rattle.newmm_answers.proofs.Told.{accepted_is}
use Rattle.newmm_many_answers.specs.Texts.{texts_of}
use Rattle.newmm_many_answers.specs.Turns.{Singly, Turns, cells_of, all_cells, ends_told}
use Rattle.newmm_many_answers.specs.Calls.{ManyCall, many_causes, many_answer, turns_by, unless, answers_by, out_by, scratch_by}
use Rattle.theorems_demands.specs.ManyTexts.{Form, cuts_form, reasons_form, text_at, cells_at, counts_before, start_of, single_call, cells_told, wrote_by}
use Rattle.theorems_demands.specs.ManyTexts.{ManyIsSingleFor, ManyIsSingle, ManyIsSingleReasons, ManyScratchFor, ManyScratch, ManyScratchReasons}
use Rattle.theorems_demands.specs.ManyTexts.{AnyTextsSame, Demand3ManyAnyFor, Demand3ManyFor, Demand3ManyAny, Demand3Many, Demand3ManyAnyReasons, Demand3ManyReasons}
use Rattle.theorems_demands.proofs.Reaching.{means}
use Rattle.theorems_demands.proofs.Demand3.{demand_3_any}
use Rattle.theorems_demands.proofs.Reasons.{demand_3_any_reasons}
use Rattle.theorems_demands.proofs.ManyShapes.{Shape, ends_shape, pairs_shape, telling, taking, writing, form}
use Rattle.theorems_demands.proofs.ManyTurns.{nth, texts_number, nth_text, used_before, cells_at_nth, counts_are, told_number, Answered, each, some_past, none_past}

-- ---- an accepted call

module _ (s : Shape) (meant : List ℕ → Option Words) (c : ManyCall) (n : ℕ) (ok : many_answer c ≡ Ok n) where
  abbrev one : Singly
  one = (form s meant).one c

  abbrev turns : Turns
  turns = turns_by one c

  number : length c.ends ≡ n
  number = accepted_is (many_causes (length c.row) c.ends (length c.answers)) (length c.ends) n ok

  rows : answers_by one c ≡ all_cells turns.told ++ drop (length (all_cells turns.told)) c.answers
  rows = ap (λ (x : Result ℕ Refusal). output x (all_cells turns.told) c.answers) ok

  out_is : out_by one c ≡ turns.out
  out_is = ap (λ (x : Result ℕ Refusal). unless x turns.out c.out) ok

  scratch_is : scratch_by one c ≡ turns.scratch
  scratch_is = ap (λ (x : Result ℕ Refusal). unless x turns.scratch c.scratch) ok

  as_many : length turns.told ≡ n
  as_many = told_number s c.mode (meant c.pool) (texts_of c.row c.ends) c.out c.scratch ∙ texts_number c.row 0 c.ends ∙ number

  module _ (i : ℕ) (l : i < n) where
    text_is : nth i (texts_of c.row c.ends) ≡ text_at c i
    text_is = nth_text c.row 0 c.ends i (omega (arith, number))

    start_is : start_of (form s meant) c i ≡ s.cells (used_before i turns.told)
    start_is = ap s.cells (ap (counts_before i) rows ∙ counts_are turns.told (drop (length (all_cells turns.told)) c.answers) i (omega (arith, as_many)))

    single : Answered s c.mode (meant c.pool) (texts_of c.row c.ends) c.out (length c.scratch) i turns (s.cells (used_before i turns.told))
    single = each s c.mode (meant c.pool) (texts_of c.row c.ends) c.out c.scratch i (omega (arith, texts_number c.row 0 c.ends, number))

    start_fits : start_of (form s meant) c i ≤ length c.out
    start_fits = omega (arith, start_is, single.fits)

    cells_single : cells_at i (answers_by one c) ≡ cells_of ((form s meant).answer (single_call (form s meant) c i))
    cells_single =
        ap (cells_at i) rows ∙ cells_at_nth turns.told (drop (length (all_cells turns.told)) c.answers) i (omega (arith, as_many)) ∙ single.told_is
        ∙ (λ k. cells_of (telling s c.mode (meant c.pool) (length c.scratch) (text_is k) (drop (sym start_is k) c.out)))

    wrote_single : take (cells_told (form s meant) (single_call (form s meant) c i)) (drop (start_of (form s meant) c i) (out_by one c)) ≡ wrote_by (form s meant) (single_call (form s meant) c i)
    wrote_single =
        (λ k. take (taking s c.mode (meant c.pool) (length c.scratch) (sym text_is k) (drop (start_is k) c.out)) (drop (start_is k) (out_is k)))
        ∙ single.wrote_is
        ∙ (λ k. writing s c.mode (meant c.pool) (length c.scratch) (text_is k) (drop (sym start_is k) c.out))

module _ (s : Shape) (meant : List ℕ → Option Words) where
  pub is_single : ManyIsSingleFor (form s meant)
  is_single c n i ok l = (cells_single s meant c n ok i l, wrote_single s meant c n ok i l)

  pub scratch_left : ManyScratchFor (form s meant)
  scratch_left c n ok = (
    λ i l p. scratch_is s meant c n ok
        ∙ some_past s c.mode (meant c.pool) (texts_of c.row c.ends) c.out c.scratch i (omega (arith, texts_number c.row 0 c.ends, number s meant c n ok)) (past i l ∙ p),
    λ h. scratch_is s meant c n ok ∙ none_past s c.mode (meant c.pool) (texts_of c.row c.ends) c.out c.scratch
        (λ i l p. h i (omega (arith, texts_number c.row 0 c.ends, number s meant c n ok)) (sym (past i (omega (arith, texts_number c.row 0 c.ends, number s meant c n ok))) ∙ p)),
  )
    where
      past : (i : ℕ) → i < n → answer (first_causes (nth i (texts_of c.row c.ends)) (meant c.pool) (length c.scratch)) 0 ≡ answer (first_causes (text_at c i) (meant c.pool) (length c.scratch)) 0
      past i l = ap (λ (t : List ℕ). answer (first_causes t (meant c.pool) (length c.scratch)) 0) (text_is s meant c n ok i l)

pub many_is_single : ManyIsSingle
many_is_single = is_single ends_shape meaning

pub many_is_single_reasons : ManyIsSingleReasons
many_is_single_reasons = is_single pairs_shape meaning

pub many_scratch : ManyScratch
many_scratch = scratch_left ends_shape meaning

pub many_scratch_reasons : ManyScratchReasons
many_scratch_reasons = scratch_left pairs_shape meaning

-- ---- demand 3 for each text

-- no refusal has number 0
pub some_number : (r : Refusal) → number_of r ≡ 0 → ⊥
some_number (IllFormed d) e = omega arith
some_number (TooManyScalars d) e = omega arith
some_number (NotAScalar d) e = omega arith
some_number NotADictionary e = omega arith
some_number (ScratchTooShort d) e = omega arith
some_number (OutputTooShort d) e = omega arith
some_number (WordTooLong d) e = omega arith
some_number (TooFewNodes d) e = omega arith
some_number (BadImage d) e = omega arith
some_number (WrongPosition d) e = omega arith
some_number (BitAboveEnd d) e = omega arith
some_number LimitsTooLarge e = omega arith
some_number FiguresFull e = omega arith

-- number 0 is told of an accepted text alone
pub cells_ends : (a : Result Ends Refusal) (k edges : ℕ) → cells_of a ≡ 0 ∷ k ∷ edges ∷ 0 ∷ [] → a ≡ accepted_with k edges
cells_ends (Ok told) k edges h = (λ i. accepted_with (get_or (h i) 1 0) (get_or (h i) 2 0))
cells_ends (Err r) k edges h = absurd (some_number r (ap (λ (l : List ℕ). get_or l 0 0) h))

-- the single calls of two forms answer alike
abbrev pub Alike : (f g : Form) → (x y : Call) → Type 0
Alike f g x y =
    x.text ≡ y.text
    → x.mode ≡ y.mode
    → (k edges : ℕ)
    → f.answer x ≡ accepted_with k edges
    → scratch_for (length y.text) ≤ length y.scratch
    → g.cells k ≤ length y.out
    → (g.answer y ≡ accepted_with k edges) × (take (g.cells k) (g.after y) ≡ take (f.cells k) (f.after x))

module _ (f g : Form) (sf : ManyIsSingleFor f) (sg : ManyIsSingleFor g) (a b : ManyCall) where
  -- what stands in the output for a text that was told k tokens
  wrote : (h : Form) → ManyIsSingleFor h → (c : ManyCall) (n i k edges : ℕ) → many_answer c ≡ Ok n → i < n → h.answer (single_call h c i) ≡ accepted_with k edges
      → take (h.cells k) (drop (start_of h c i) (out_by (h.one c) c)) ≡ take (h.cells k) (h.after (single_call h c i))
  wrote h sh c n i k edges ok l e =
      sym (ap (λ (t : Result Ends Refusal). take (h.cells (ends_told t)) (drop (start_of h c i) (out_by (h.one c) c))) e)
      ∙ (sh c n i ok l).1
      ∙ ap (λ (t : Result Ends Refusal). take (h.cells (ends_told t)) (h.after (single_call h c i))) e

  pub any_texts_same : ((i j : ℕ) → Alike f g (single_call f a i) (single_call g b j)) → AnyTextsSame f g a b
  any_texts_same d n m i j oa ob li lj text mode k edges h scratch room =
      let e = cells_ends (f.answer (single_call f a i)) k edges (sym (sf a n i oa li).0 ∙ h) in
      let q = d i j text mode k edges e scratch (omega (arith, length-drop (start_of g b j) b.out)) in
      ((sg b m j ob lj).0 ∙ ap cells_of q.0, wrote g sg b m j k edges ob lj q.0 ∙ q.1 ∙ sym (wrote f sf a n i k edges oa li e))

-- the pools of runs are such
reached : (f : Form) → ((pool : List ℕ) → f.means pool ≡ meaning pool) → Demand3ManyAnyFor f → Demand3ManyFor f
reached f is any a b v w ra rb =
    any a b (words_in v) (words_in w) (is a.pool ∙ means_of a.pool v (means ra)) (is b.pool ∙ means_of b.pool w (means rb))

pub demand_3_many_any : Demand3ManyAny
demand_3_many_any a b v w pa pb same =
    any_texts_same cuts_form cuts_form many_is_single many_is_single a b (λ i j. demand_3_any (single_call cuts_form a i) (single_call cuts_form b j) v w pa pb same)

pub demand_3_many : Demand3Many
demand_3_many = reached cuts_form (λ pool. refl) demand_3_many_any

pub demand_3_many_any_reasons : Demand3ManyAnyReasons
demand_3_many_any_reasons a b v w pa pb same =
    any_texts_same reasons_form reasons_form many_is_single_reasons many_is_single_reasons a b (λ i j. demand_3_any_reasons (single_call reasons_form a i) (single_call reasons_form b j) v w pa pb same)

pub demand_3_many_reasons : Demand3ManyReasons
demand_3_many_reasons = reached reasons_form (λ pool. refl) demand_3_many_any_reasons
