-- The text ends of a call, tested from the left. Assumes nothing.
use Rattle.std.specs.Prelude.{Ok, Err, ◌⊎◌}
use Rattle.std.proofs.Common.{inl, inr}
use Prim.Native.Nat.{ℕ, suc, ◌+◌, ◌*◌, ◌-◌, ◌≤◌, ◌<◌}
use native.Mathlib.Omega.{arith}
use native.Mathlib.Decide.{dec_lt}
use mathlib.Core.Path.{◌≡◌, refl, sym, ◌∙◌, ap}
use mathlib.Core.Bool.{Bool, cond}
use mathlib.Core.List.{List, [], ◌∷◌}
use lib.ListN.{length, get_or, take, drop, drop_of_length-le}
use lib.Seq.{drop-cons}
use borrow.Author.Tests.{le-leb, lt-leb, lt-ltb, le-ltb, ltb-false}
use Rattle.refusal.specs.declared.Refusal.TheVariants.{WrongPosition, OutputTooShort}
use Rattle.refusal.specs.Answers.{Cause, answer, out_cause}
use Rattle.refusal.proofs.Causes.{none_of, out_short}
use Rattle.newmm_many_answers.specs.Texts.{texts_from, right_from, first_wrong}
use Rattle.newmm_many_answers.specs.Calls.{ends_cause, many_causes}
use Rattle.newmm_many_answers.specs.inner.Whole.{Whole}

right_yes : (size from e : ℕ) (es : List ℕ) → from ≤ e → e ≤ size → right_from size from (e ∷ es) ≡ suc (right_from size e es)
unfolding right_from
right_yes size from e es h k = simp (le-leb from e h, le-leb e size k)

right_below : (size from e : ℕ) (es : List ℕ) → e < from → right_from size from (e ∷ es) ≡ 0
unfolding right_from
right_below size from e es h = simp (lt-leb from e h)

right_over : (size from e : ℕ) (es : List ℕ) → from ≤ e → size < e → right_from size from (e ∷ es) ≡ 0
unfolding right_from
right_over size from e es h k = simp (le-leb from e h, lt-leb e size k)

right_nil : (size from : ℕ) → right_from size from [] ≡ 0
unfolding right_from
right_nil size from = refl

next_end : (ends : List ℕ) (i : ℕ) → i < length ends → drop i ends ≡ get_or ends i 0 ∷ drop (i + 1) ends
next_end ends i h = drop-cons ends i 0 h ∙ (let z : suc i ≡ i + 1 = omega arith in ap (λ (k : ℕ). get_or ends i 0 ∷ drop k ends) z)

-- the first i ends are right, and the last of them is `from`
pub record Right (size : ℕ) (ends : List ℕ) (from i : ℕ) : Type 0 where
  pub inside : i ≤ length ends
  pub rest : first_wrong size ends ≡ i + right_from size from (drop i ends)

pub right_none : (size : ℕ) (ends : List ℕ) → Right size ends 0 0
right_none size ends = record { inside = omega arith; rest = omega arith }

module _ {size : ℕ} {ends : List ℕ} {from i : ℕ} (r : Right size ends from i) where
  module _ (l : i < length ends) where
    pub right_more : from ≤ get_or ends i 0 → get_or ends i 0 ≤ size → Right size ends (get_or ends i 0) (i + 1)
    right_more h k =
        record {
          inside = omega arith;
          rest = omega (arith, r.rest, ap (right_from size from) (next_end ends i l) ∙ right_yes size from (get_or ends i 0) (drop (i + 1) ends) h k);
        }

    pub stop_below : get_or ends i 0 < from → i ≡ first_wrong size ends
    stop_below h = omega (arith, r.rest, ap (right_from size from) (next_end ends i l) ∙ right_below size from (get_or ends i 0) (drop (i + 1) ends) h)

    pub stop_over : from ≤ get_or ends i 0 → size < get_or ends i 0 → i ≡ first_wrong size ends
    stop_over h k = omega (arith, r.rest, ap (right_from size from) (next_end ends i l) ∙ right_over size from (get_or ends i 0) (drop (i + 1) ends) h k)

    pub stop : (get_or ends i 0 < from) ⊎ ((from ≤ get_or ends i 0) × (size < get_or ends i 0)) → i ≡ first_wrong size ends
    stop (inl h) = stop_below h
    stop (inr h) = stop_over h.0 h.1

pub right_all : {size : ℕ} {ends : List ℕ} {from i : ℕ} → Right size ends from i → length ends ≤ i → length ends ≡ first_wrong size ends
right_all {size} {ends} {from} r l =
    omega (arith, r.inside, r.rest, ap (right_from size from) (drop_of_length-le ends l) ∙ right_nil size from)

-- ---- the refusals of the whole call

module _ (size : ℕ) (ends : List ℕ) (room : ℕ) where
  abbrev wrong : List Cause
  wrong = ends_cause size ends ∷ []

  pub refused_wrong : {i : ℕ} → i ≡ first_wrong size ends → i < length ends → Err (WrongPosition i) ≡ answer (many_causes size ends room) (length ends)
  refused_wrong {i} e l =
      ap (λ (k : ℕ). Err (WrongPosition k)) e
      ∙ sym (ap (λ (b : Bool). cond b (Err (WrongPosition (first_wrong size ends))) (answer (out_cause (4 * length ends) room ∷ []) (length ends))) (lt-ltb (first_wrong size ends) (length ends) (omega arith)))

  module _ {i : ℕ} (e : i ≡ first_wrong size ends) (l : length ends ≤ i) where
    right : answer wrong 0 ≡ Ok 0
    right = ap (λ (b : Bool). cond b (Err (WrongPosition (first_wrong size ends))) (Ok 0)) (le-ltb (first_wrong size ends) (length ends) (omega arith))

    pub refused_short : room < 4 * length ends → Err (OutputTooShort (4 * length ends)) ≡ answer (many_causes size ends room) (length ends)
    refused_short h = out_short wrong (4 * length ends) room 0 (length ends) (4 * length ends) right refl h

    pub accepted_all : 4 * length ends ≤ room → Ok (length ends) ≡ answer (many_causes size ends room) (length ends)
    accepted_all h =
        sym (ap (λ (b : Bool). cond b (Err (WrongPosition (first_wrong size ends))) (answer (out_cause (4 * length ends) room ∷ []) (length ends))) (le-ltb (first_wrong size ends) (length ends) (omega arith))
        ∙ ap (λ (b : Bool). cond b (Err (OutputTooShort (4 * length ends))) (Ok (length ends))) (le-ltb room (4 * length ends) h))

-- ---- a call that is accepted

pub whole_of : (size : ℕ) (ends : List ℕ) (room n : ℕ) {k : ℕ} → answer (many_causes size ends room) n ≡ Ok k → Whole size ends room
whole_of size ends room n {k} h =
    let q = none_of (many_causes size ends room) n k h in
    record { right_ends = ltb-false (first_wrong size ends) (length ends) q.0; cells = ltb-false room (4 * length ends) q.1.0 }

-- the next end is right
pub right_here : {size : ℕ} {ends : List ℕ} {from i room : ℕ} → Right size ends from i → Whole size ends room → i < length ends
    → (from ≤ get_or ends i 0) × (get_or ends i 0 ≤ size)
right_here {size} {ends} {from} {i} r w l = go (dec_lt (get_or ends i 0) from) (dec_lt size (get_or ends i 0))
  where
    go : Dec (get_or ends i 0 < from) → Dec (size < get_or ends i 0) → (from ≤ get_or ends i 0) × (get_or ends i 0 ≤ size)
    go (yes b) d = absurd (omega (arith, w.right_ends, stop_below r l b))
    go (no b) (yes d) = absurd (omega (arith, w.right_ends, stop_over r l (omega arith) d))
    go (no b) (no d) = (omega arith, omega arith)

-- and the texts from there on start with the one that goes up to it
pub next_text : (row ends : List ℕ) (from i : ℕ) → i < length ends
    → texts_from row from (drop i ends) ≡ take (get_or ends i 0 - from) (drop from row) ∷ texts_from row (get_or ends i 0) (drop (i + 1) ends)
unfolding texts_from
next_text row ends from i l = ap (texts_from row from) (next_end ends i l)

pub no_text : (row ends : List ℕ) (from i : ℕ) → length ends ≤ i → texts_from row from (drop i ends) ≡ []
unfolding texts_from
no_text row ends from i l = ap (texts_from row from) (drop_of_length-le ends l)
