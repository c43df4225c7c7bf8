-- What a cut by the words in a view of a pool answers and leaves, and what a refused one does.
-- Assumes nothing.
use Rattle.std.specs.Prelude.{Result, Ok, Err}
use Prim.Native.Nat.{ℕ, zero, suc, ◌+◌, ◌-◌, ◌*◌, ◌/◌, ◌≤◌, ◌<◌, min}
use native.Mathlib.Omega.{arith}
use native.Mathlib.Decide.{dec_lt}
use mathlib.Core.Path.{◌≡◌, refl, sym, ◌∙◌, ap, subst}
use mathlib.Core.Bool.{Bool, true, false, cond}
use mathlib.Core.List.{List, [], ◌∷◌, ◌++◌, append-nil}
use mathlib.Core.Option.{Option}
use lib.ListN.{length, get_or, take, drop, replicate, length-append, length-replicate, get_or-replicate, get_or-eq_default, replicate-append-replicate}
use lib.Seq.{drop_at, drop-length, length-take-le, take-length}
use lib.Dec.{ltb}
use borrow.Author.Tests.{lt-ltb, le-ltb}
use Rattle.refusal.specs.declared.Refusal.{Refusal}
use Rattle.refusal.specs.declared.Refusal.TheVariants.{OutputTooShort}
use Rattle.refusal.specs.Answers.{Cause, answer, output}
use Rattle.refusal.proofs.Order.{refused_first, accepted_first}
use Rattle.trie_pool.specs.Words.{holds}
use Rattle.trie_pool.specs.Meaning.{Words}
use Rattle.trie_check.specs.Refusals.{held}
use Rattle.refusal.proofs.Causes.{still}
use Rattle.newmm_rules.specs.Cutting.{Cut}
use Rattle.newmm_rules.specs.declared.Ends.{Ends}
use Rattle.newmm_rules.specs.declared.Mode.{Mode}
use Rattle.newmm_answers.proofs.Checks.{at_most, room}
use Rattle.newmm_answers.proofs.Cuts.{few_ends}
use Rattle.newmm_answers.specs.Answers.{accepted_with, cut_of, scratch_for, out_causes, first_causes, accepts, told, cut_answer, out_after, cleared, scratch_after}
use Rattle.newmm_segment.specs.inner.Written.{Ready, Written}
use Rattle.newmm_segment.proofs.Samples.{front, behind, fits}
use Rattle.newmm_answers.specs.inner.Passing.{Passes, in_view, Sees, Blank, CutsBy}

-- ---- a call that passes

zeros_blank : (n k : ℕ) → get_or (replicate {A = ℕ} n 0) k 0 ≡ 0
zeros_blank n k = go (dec_lt k n)
  where
    go : Dec (k < n) → get_or (replicate {A = ℕ} n 0) k 0 ≡ 0
    go (yes h) = get_or-replicate {A = ℕ} n k 0 0 h
    go (no h) = get_or-eq_default (replicate {A = ℕ} n 0) 0 {n = k} (omega (arith, length-replicate {A = ℕ} n 0))

-- what is lent on: a view of the pool, and as many cells of 0 as scratch has
pub record Lent (text view row : List ℕ) (cells : ℕ) : Type 0 where
  pub sees : Sees text view cells
  pub blank : row ≡ replicate {A = ℕ} cells 0

module _ {text view row : List ℕ} {cells : ℕ} (p : Lent text view row cells) where
  room_is : scratch_for (length text) ≤ cells
  room_is = room p.sees.passes

  pub ready : Ready text view row
  ready =
      subst (λ (l : List ℕ). Ready text view l) (sym p.blank)
      (record {
        short = at_most p.sees.passes;
        root_is = p.sees.readable;
        room = omega (arith, room_is, length-replicate {A = ℕ} cells 0);
        blank = zeros_blank cells;
      })

-- what a call makes of a text: as many cells as there are ends, and as many edges
pub record Like (made : Mode → Words → List ℕ → Cut) : Type 0 where
  pub many : (mode : Mode) (words : Words) (text : List ℕ) → length (made mode words text).ends ≡ length (cut_of mode words text).ends
  pub edges : (mode : Mode) (words : Words) (text : List ℕ) → (made mode words text).edges ≡ (cut_of mode words text).edges

pub the_cut : Like cut_of
the_cut = record { many = λ mode words text. refl; edges = λ mode words text. refl }

-- it stands at the front of scratch
pub record Ended (made : Mode → Words → List ℕ → Cut) (mode : Mode) (text view row : List ℕ) (cells : ℕ) (r : Ends) : Type 0 where
  pub like : Like made
  pub blank_row : List ℕ
  pub lent : Lent text view blank_row cells
  pub written : Written (made mode (holds view) text) blank_row row r

module _ {made : Mode → Words → List ℕ → Cut} {mode : Mode} {text view row : List ℕ} {cells : ℕ} {r : Ends} (z : Ended made mode text view row cells r) where
  abbrev whole : Cut
  whole = made mode (holds view) text

  pub v : Written whole (replicate {A = ℕ} cells 0) row r
  v = subst (λ (l : List ℕ). Written whole l row r) z.lent.blank z.written

  -- as many as the cut has ends
  ends_are : r.ends ≡ length (cut_of mode (holds view) text).ends
  ends_are = v.ends ∙ z.like.many mode (holds view) text

  inside : r.ends ≤ cells
  inside = omega (arith, ends_are, few_ends mode (holds view) text, room_is z.lent)

  pub ends_fit : r.ends ≤ length row
  ends_fit = fits v (omega (arith, v.ends, inside, length-replicate {A = ℕ} cells 0))

  pub ends_lent : length (take r.ends row) ≡ r.ends
  ends_lent = length-take-le r.ends row ends_fit

  -- the ends are cleared again
  pub all_zero : {row' : List ℕ} → row' ≡ replicate {A = ℕ} r.ends 0 ++ drop r.ends row → row' ≡ replicate {A = ℕ} cells 0
  all_zero e =
      let d : cells ≡ r.ends + (cells - r.ends) = omega (arith, inside) in
      let y : drop (length whole.ends) (replicate {A = ℕ} cells 0) ≡ replicate {A = ℕ} (cells - r.ends) 0 =
      ap (λ (k : ℕ). drop k (replicate {A = ℕ} cells 0)) (sym v.ends)
      ∙ ap (λ (k : ℕ). drop r.ends (replicate {A = ℕ} k 0)) d
      ∙ ap (drop r.ends) (sym (replicate-append-replicate {A = ℕ} r.ends (cells - r.ends) 0))
      ∙ drop_at (replicate {A = ℕ} r.ends 0) (replicate {A = ℕ} (cells - r.ends) 0) r.ends (length-replicate {A = ℕ} r.ends 0)
      in
      e ∙ ap (λ (x : List ℕ). replicate {A = ℕ} r.ends 0 ++ x) (behind v ∙ y)
      ∙ replicate-append-replicate {A = ℕ} r.ends (cells - r.ends) 0 ∙ ap (λ (k : ℕ). replicate {A = ℕ} k 0) (sym d)

  late : (room : ℕ) → accepts mode text (in_view view) cells room ≡ answer (out_causes (cut_of mode (holds view) text).ends room) (length (cut_of mode (holds view) text).ends)
  late room =
      accepted_first (first_causes text (in_view view) cells) (out_causes (cut_of mode (holds view) text).ends room) 0 (length (cut_of mode (holds view) text).ends) z.lent.sees.passes.accepted

  tested : (room : ℕ) {b : Bool} → ltb room r.ends ≡ b → accepts mode text (in_view view) cells room ≡ cond b (Err (OutputTooShort r.ends)) (Ok r.ends)
  tested room e =
      late room ∙ ap (λ (n : ℕ). cond (ltb room n) (Err (OutputTooShort n)) (Ok n)) (sym ends_are)
      ∙ ap (λ (b : Bool). cond b (Err (OutputTooShort r.ends)) (Ok r.ends)) e

  pub accepts_no : (room : ℕ) → room < r.ends → accepts mode text (in_view view) cells room ≡ Err (OutputTooShort r.ends)
  accepts_no room h = tested room (lt-ltb room r.ends h)

  pub accepts_yes : (room : ℕ) → r.ends ≤ room → accepts mode text (in_view view) cells room ≡ Ok r.ends
  accepts_yes room h = tested room (le-ltb room r.ends h)

  -- what is answered with room enough, and without
  pub answers_yes : (room : ℕ) → r.ends ≤ room → accepted_with r.ends r.edges ≡ cut_answer mode text (in_view view) cells room
  answers_yes room h =
      ap (accepted_with r.ends) (v.edges ∙ z.like.edges mode (holds view) text)
      ∙ sym (ap (λ (a : Result ℕ Refusal). told a (cut_of mode (holds view) text).edges) (accepts_yes room h))

  pub answers_no : (room : ℕ) → room < r.ends → Err (OutputTooShort r.ends) ≡ cut_answer mode text (in_view view) cells room
  answers_no room h = sym (ap (λ (a : Result ℕ Refusal). told a (cut_of mode (holds view) text).edges) (accepts_no room h))

-- scratch of a call that passes
pub scratch_zero : {text : List ℕ} {m : Option Words} (scratch : List ℕ) → Passes text m (length scratch) → scratch_after text m scratch ≡ replicate {A = ℕ} (length scratch) 0
scratch_zero scratch p = ap (λ (x : Result ℕ Refusal). cleared x scratch) p.accepted

-- refusal 6, and an accepted call: what is answered and left
module _ {mode : Mode} {text view row : List ℕ} (scratch out : List ℕ) {r : Ends} (z : Ended cut_of mode text view row (length scratch) r) where
  zeroed : {row' : List ℕ} → row' ≡ replicate {A = ℕ} r.ends 0 ++ drop r.ends row → row' ≡ scratch_after text (in_view view) scratch
  zeroed e = all_zero z e ∙ sym (scratch_zero scratch z.lent.sees.passes)

  pub short_cuts : {row' : List ℕ} → length out < r.ends → row' ≡ replicate {A = ℕ} r.ends 0 ++ drop r.ends row
      → CutsBy (in_view view) text out scratch mode (Err (OutputTooShort r.ends)) out row'
  short_cuts h e = (
    answers_no z (length out) h,
    (sym (ap (λ (a : Result ℕ Refusal). output a (whole z).ends out) (accepts_no z (length out) h)), zeroed e),
  )

  pub done_cuts : {out' row' : List ℕ} → r.ends ≤ length out → out' ≡ take r.ends row ++ drop r.ends out
      → row' ≡ replicate {A = ℕ} r.ends 0 ++ drop r.ends row → CutsBy (in_view view) text out scratch mode (accepted_with r.ends r.edges) out' row'
  done_cuts h f e = (
    answers_yes z (length out) h,
    (
      f ∙ ap (λ (x : List ℕ). x ++ drop r.ends out) (front (v z))
          ∙ ap (λ (k : ℕ). (whole z).ends ++ drop k out) (v z).ends
          ∙ sym (ap (λ (a : Result ℕ Refusal). output a (whole z).ends out) (accepts_yes z (length out) h)),
      zeroed e,
    ),
  )

-- ---- scratch that was cleared for the call

module _ (scratch : List ℕ) {row : List ℕ} (e : row ≡ replicate {A = ℕ} (length scratch) 0) where
  as_long : length row ≡ length scratch
  as_long = ap length e ∙ length-replicate {A = ℕ} (length scratch) 0

  pub still_sees : {text view : List ℕ} → Sees text view (length scratch) → Sees text view (length row)
  still_sees {text} {view} p = subst (λ (k : ℕ). Sees text view k) (sym as_long) p

  pub now_blank : Blank row
  now_blank = e ∙ ap (λ (k : ℕ). replicate {A = ℕ} k 0) (sym as_long)

  -- what scratch held before decides nothing
  pub cleared_cuts : {text view : List ℕ} → Sees text view (length scratch) → (out : List ℕ) (mode : Mode) {r : Result Ends Refusal} {out' row' : List ℕ}
      → CutsBy (in_view view) text out row mode r out' row' → CutsBy (in_view view) text out scratch mode r out' row'
  cleared_cuts {text} {view} p out mode c = (
    c.0 ∙ ap (λ (k : ℕ). cut_answer mode text (in_view view) k (length out)) as_long,
    (
      c.1.0 ∙ ap (λ (k : ℕ). out_after mode text (in_view view) k out) as_long,
      c.1.1 ∙ scratch_zero row (still_sees p).passes ∙ ap (λ (k : ℕ). replicate {A = ℕ} k 0) as_long ∙ sym (scratch_zero scratch p.passes),
    ),
  )

-- ---- refusals 2 to 5

module _ (mode : Mode) (text : List ℕ) (m : Option Words) (scratch : List ℕ) {a : Result ℕ Refusal} (is : a ≡ answer (first_causes text m (length scratch)) (length text)) where
  module _ {r : Refusal} (no' : a ≡ Err r) where
    refused : (n : ℕ) → answer (first_causes text m (length scratch)) n ≡ Err r
    refused n = sym (still (first_causes text m (length scratch)) (length text) n (sym is ∙ no'))

    -- whatever the room
    pub refused_all : (room : ℕ) → accepts mode text m (length scratch) room ≡ Err r
    refused_all room = refused_first (first_causes text m (length scratch)) (out_causes (cut_of mode (held m) text).ends room) 0 _ (refused 0)

    pub refused_told : (room : ℕ) → Err r ≡ cut_answer mode text m (length scratch) room
    refused_told room = sym (ap (λ (x : Result ℕ Refusal). told x (cut_of mode (held m) text).edges) (refused_all room))

    pub scratch_kept : scratch ≡ scratch_after text m scratch
    scratch_kept = sym (ap (λ (x : Result ℕ Refusal). cleared x scratch) (refused 0))

  pub early_cuts : (out : List ℕ) {r : Refusal} → a ≡ Err r → CutsBy m text out scratch mode (Err r) out scratch
  early_cuts out no' = (
    refused_told no' (length out),
    (sym (ap (λ (x : Result ℕ Refusal). output x (cut_of mode (held m) text).ends out) (refused_all no' (length out))), scratch_kept no'),
  )
