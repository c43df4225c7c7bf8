-- Many texts in one call: one answer, many is single, and demand 3 for each text. Assumes nothing.
use Rattle.std.specs.Prelude.{Result}
use Rattle.refusal.specs.declared.Refusal.{Refusal}
use Prim.Native.Nat.{ℕ, ◌+◌, ◌*◌, ◌≤◌}
use mathlib.Core.Path.{◌≡◌, refl, sym, ◌∙◌, ap, subst}
use mathlib.Core.List.{List}
use mathlib.Core.Option.{Option}
use lib.ListN.{length, take, drop}
use Rattle.newmm_many.proofs.cut_many.Kinds as many_kinds
use Rattle.newmm_many.proofs.cut_many.Reads as many_contract
use Rattle.newmm_many.proofs.cut_reasons_many.Kinds as reasons_many_kinds
use Rattle.newmm_many.proofs.cut_reasons_many.Reads as reasons_many_contract
use Rattle.trie_pool.specs.Meaning.{Words, meaning}
use Rattle.newmm_many_answers.specs.Turns.{cells_of, ends_told}
use Rattle.newmm_many_answers.specs.Calls.{many_answer, answers_by, out_by}
use Rattle.theorems_demands.specs.ManyTexts.{Form, cuts_form, reasons_form, cells_at, counts_before, start_of, single_call, AnyTextsSame}
use Rattle.theorems_demands.proofs.ManyShapes.{Shape, ends_shape, pairs_shape, telling, leaving, form}
use Rattle.theorems_demands.proofs.ManyTexts.{is_single, demand_3_many_any, demand_3_many, demand_3_many_any_reasons, demand_3_many_reasons}
use Rattle.theorems_one_answer.specs.OneAnswer.{OneAnswer}
use Rattle.theorems_one_answer.specs.ManyRuns.{ManyRun, ManyReasonsRun, SeenMany, SeenOne, many_seen, many_reasons_seen, one_seen, one_reasons_seen, start_in, AsSingle, ManyIsSingleOfRuns, ManyIsSingleReasonsOfRuns}
use Rattle.theorems_one_answer.specs.ManyRuns.{SameTextsSeen, Demand3ManyAnyOfRuns, Demand3ManyOfRuns, Demand3ManyAnyReasonsOfRuns, Demand3ManyReasonsOfRuns}
use Rattle.theorems_one_answer.proofs.Shapes.{both, answer_and_two_rows}

-- the answer, the answers of the texts, the output and the scratch
pub many_one : OneAnswer {A = (Result ℕ Refusal × List ℕ × List ℕ) × List ℕ} 6 many_kinds.ps many_kinds.r many_contract.Post
    (λ κs x s. let answers = s.1.1.1.0.now in let out = s.1.1.1.1.0.now in let scratch = s.1.1.1.1.1.0.now in ((x, answers, out), scratch))
many_one κs a x y s t p q =
    both (answer_and_two_rows p.0 p.1.0 p.1.1.0 q.0 q.1.0 q.1.1.0) (p.1.1.1 ∙ sym q.1.1.1)

pub reasons_many_one : OneAnswer {A = (Result ℕ Refusal × List ℕ × List ℕ) × List ℕ} 6 reasons_many_kinds.ps reasons_many_kinds.r reasons_many_contract.Post
    (λ κs x s. let answers = s.1.1.1.0.now in let pairs = s.1.1.1.1.0.now in let scratch = s.1.1.1.1.1.0.now in ((x, answers, pairs), scratch))
reasons_many_one κs a x y s t p q =
    both (answer_and_two_rows p.0 p.1.0 p.1.1.0 q.0 q.1.0 q.1.1.0) (p.1.1.1 ∙ sym q.1.1.1)

-- what the contract says of a run with many texts, and of one with one text
pub record KeepsMany (f : Form) (r : SeenMany) : Type 0 where
  pub whole : r.answer ≡ many_answer r.given
  pub answers : r.answers ≡ answers_by (f.one r.given) r.given
  pub left : r.out ≡ out_by (f.one r.given) r.given

pub record KeepsOne (f : Form) (r : SeenOne) : Type 0 where
  pub answered : r.answer ≡ f.answer r.given
  pub left : r.out ≡ f.after r.given

start : (f : Form) (r : SeenMany) → KeepsMany f r → (i : ℕ) → start_in f.cells r i ≡ start_of f r.given i
start f r keeps i = ap (λ (l : List ℕ). f.cells (counts_before i l)) keeps.answers

pub as_single : (s : Shape) (meant : List ℕ → Option Words) (r : SeenMany) (o : SeenOne) → KeepsMany (form s meant) r → KeepsOne (form s meant) o → AsSingle s.cells r o
as_single s meant r o keeps kept n i ok l text pool mode scratch out =
    let f = form s meant in
    let c = r.given in
    let q = is_single s meant c n i (sym keeps.whole ∙ ok) l in
    let b = start f r keeps i in
    let z : o.given.out ≡ drop (start_of f c i) c.out = out ∙ ap (λ (k : ℕ). drop k c.out) b in
    let a : o.answer ≡ f.answer (single_call f c i) =
    kept.answered ∙ (λ k. telling s (mode k) (meant (pool k)) (scratch k) (text k) (z k)) in
    let w : o.out ≡ f.after (single_call f c i) =
    kept.left ∙ (λ k. leaving s (mode k) (meant (pool k)) (scratch k) (text k) (z k)) in (
      ap (cells_at i) keeps.answers ∙ q.0 ∙ ap cells_of (sym a),
      (λ k. take (s.cells (ends_told (a k))) (drop (b k) (keeps.left k))) ∙ q.1 ∙ sym (λ k. take (s.cells (ends_told (a k))) (w k)),
    )

-- two calls that are told the same are two runs that are told the same
pub same_texts : (f g : Form) (cells : ℕ → ℕ) → f.cells ≡ cells → g.cells ≡ cells → (a b : SeenMany) → KeepsMany f a → KeepsMany g b → AnyTextsSame f g a.given b.given → SameTextsSeen cells a b
same_texts f g cells fc gc a b ka kb d n m i j oa ob li lj text mode k edges h scratch room =
    let sa : start_in cells a i ≡ start_of f a.given i = (λ z. sym fc z (counts_before i a.answers)) ∙ start f a ka i in
    let sb : start_in cells b j ≡ start_of g b.given j = (λ z. sym gc z (counts_before j b.answers)) ∙ start g b kb j in
    let ck : cells k ≡ g.cells k = λ z. sym gc z k in
    let cf : cells k ≡ f.cells k = λ z. sym fc z k in
    let q = d n m i j (sym ka.whole ∙ oa) (sym kb.whole ∙ ob) li lj text mode k edges (sym (ap (cells_at i) ka.answers) ∙ h) scratch
    (subst (λ (z : ℕ). z ≤ length b.given.out) (λ z. sb z + ck z) room) in (
      ap (cells_at j) kb.answers ∙ q.0,
      (λ z. take (ck z) (drop (sb z) (kb.left z))) ∙ q.1 ∙ sym (λ z. take (cf z) (drop (sa z) (ka.left z))),
    )

-- ---- the cut

keeps : (r : ManyRun) → KeepsMany cuts_form (many_seen r)
keeps r = record { whole = r.promise.0; answers = r.promise.1.0; left = r.promise.1.1.0 }

pub many_is_single_of_runs : ManyIsSingleOfRuns
many_is_single_of_runs m s =
    as_single ends_shape meaning (many_seen m) (one_seen s) (keeps m) (record { answered = s.promise.0; left = s.promise.1.0 })

pub demand_3_many_any_of_runs : Demand3ManyAnyOfRuns
demand_3_many_any_of_runs a b v w pa pb same =
    same_texts cuts_form cuts_form (λ n. n) refl refl (many_seen a) (many_seen b) (keeps a) (keeps b)
    (demand_3_many_any (many_seen a).given (many_seen b).given v w pa pb same)

pub demand_3_many_of_runs : Demand3ManyOfRuns
demand_3_many_of_runs a b v w ra rb same =
    same_texts cuts_form cuts_form (λ n. n) refl refl (many_seen a) (many_seen b) (keeps a) (keeps b)
    (demand_3_many (many_seen a).given (many_seen b).given v w ra rb same)

-- ---- the cut with reasons

keeps_reasons : (r : ManyReasonsRun) → KeepsMany reasons_form (many_reasons_seen r)
keeps_reasons r = record { whole = r.promise.0; answers = r.promise.1.0; left = r.promise.1.1.0 }

pub many_is_single_reasons_of_runs : ManyIsSingleReasonsOfRuns
many_is_single_reasons_of_runs m s =
    as_single pairs_shape meaning (many_reasons_seen m) (one_reasons_seen s) (keeps_reasons m) (record { answered = s.promise.0; left = s.promise.1.0 })

pub demand_3_many_any_reasons_of_runs : Demand3ManyAnyReasonsOfRuns
demand_3_many_any_reasons_of_runs a b v w pa pb same =
    same_texts reasons_form reasons_form (λ n. 2 * n) refl refl (many_reasons_seen a) (many_reasons_seen b) (keeps_reasons a) (keeps_reasons b)
    (demand_3_many_any_reasons (many_reasons_seen a).given (many_reasons_seen b).given v w pa pb same)

pub demand_3_many_reasons_of_runs : Demand3ManyReasonsOfRuns
demand_3_many_reasons_of_runs a b v w ra rb same =
    same_texts reasons_form reasons_form (λ n. 2 * n) refl refl (many_reasons_seen a) (many_reasons_seen b) (keeps_reasons a) (keeps_reasons b)
    (demand_3_many_reasons (many_reasons_seen a).given (many_reasons_seen b).given v w ra rb same)
