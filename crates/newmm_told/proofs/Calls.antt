-- What telling a text answers and leaves in scratch. Assumes nothing.
use Rattle.std.specs.Prelude.{Result, Err}
use Prim.Native.Nat.{ℕ, ◌≤◌, ◌<◌}
use mathlib.Core.Path.{◌≡◌, refl, sym, ◌∙◌, ap, subst}
use mathlib.Core.List.{List, ◌++◌}
use mathlib.Core.Option.{Option}
use lib.ListN.{length, drop, replicate, length-map, length-replicate}
use Rattle.refusal.specs.declared.Refusal.{Refusal}
use Rattle.refusal.specs.declared.Refusal.TheVariants.{OutputTooShort}
use Rattle.refusal.specs.Answers.{answer, output}
use Rattle.trie_pool.specs.Words.{holds}
use Rattle.trie_pool.specs.Meaning.{Words}
use Rattle.trie_check.specs.Refusals.{held}
use Rattle.newmm_rules.specs.declared.Mode.{Mode}
use Rattle.newmm_rules.specs.declared.Ends.{Ends}
use Rattle.newmm_answers.specs.Answers.{accepted_with, first_causes, accepts, cut_answer, scratch_after}
use Rattle.newmm_answers.specs.inner.Passing.{in_view, Sees}
use Rattle.newmm_answers.proofs.Views.{Viewed}
use Rattle.newmm_reasons_answers.specs.Told.{told_of}
use Rattle.newmm_reasons_answers.specs.inner.Cells.{cell_of, cells_of, text_cells, Tells}
use Rattle.newmm_reasons_answers.proofs.Told.{as_many}
use Rattle.newmm.proofs.Calls.{Like, Ended, v, all_zero, accepts_no, accepts_yes, answers_no, answers_yes, scratch_zero, still_sees, refused_all, refused_told, scratch_kept}

-- as many cells as ends, and the edges of the cut
pub the_cells : Like text_cells
the_cells = record { many = λ mode words text. length-map (told_of mode words text) cell_of ∙ as_many words text mode; edges = λ mode words text. refl }

-- what is left, by the answer
leaves : (mode : Mode) (text : List ℕ) (m : Option Words) (scratch : List ℕ) (room : ℕ) {a : Result ℕ Refusal} → accepts mode text m (length scratch) room ≡ a
    → output (accepts mode text m (length scratch) room) (cells_of (told_of mode (held m) text)) (scratch_after text m scratch) ≡ output a (cells_of (told_of mode (held m) text)) (scratch_after text m scratch)
leaves mode text m scratch room e = ap (λ (a : Result ℕ Refusal). output a (cells_of (told_of mode (held m) text)) (scratch_after text m scratch)) e

-- refusals 2 to 5
pub early_tells : (mode : Mode) (text : List ℕ) (m : Option Words) (scratch : List ℕ) (room : ℕ) {r : Refusal} → Err r ≡ answer (first_causes text m (length scratch)) (length text) → {told : Result Ends Refusal} → told ≡ Err r
    → Tells text m scratch room mode told scratch
early_tells mode text m scratch room {r} is e =
    let no' : ◌≡◌ {A = Result ℕ Refusal} (Err r) (Err r) = refl in (
      e ∙ refused_told mode text m scratch is no' room,
      scratch_kept mode text m scratch is no' ∙ sym (leaves mode text m scratch room (refused_all mode text m scratch is no' room)),
    )

-- refusal 6, and an accepted call
module _ {mode : Mode} {text view row : List ℕ} (scratch : List ℕ) (room : ℕ) {r : Ends} (z : Ended text_cells mode text view row (length scratch) r) where
  abbrev cells : List ℕ
  cells = cells_of (told_of mode (holds view) text)

  pub short_tells : {row' : List ℕ} → room < r.ends → row' ≡ replicate {A = ℕ} r.ends 0 ++ drop r.ends row
      → Tells text (in_view view) scratch room mode (Err (OutputTooShort r.ends)) row'
  short_tells h e = (
    answers_no z room h,
    all_zero z e ∙ sym (scratch_zero scratch z.lent.sees.passes) ∙ sym (leaves mode text (in_view view) scratch room (accepts_no z room h)),
  )

  pub done_tells : r.ends ≤ room → Tells text (in_view view) scratch room mode (accepted_with r.ends r.edges) row
  done_tells h = (
    answers_yes z room h,
    (v z).is ∙ ap (λ (l : List ℕ). cells ++ drop (length cells) l) (sym (scratch_zero scratch z.lent.sees.passes)) ∙ sym (leaves mode text (in_view view) scratch room (accepts_yes z room h)),
  )

-- what scratch held before it was cleared decides nothing
pub cleared_tells : (scratch : List ℕ) {row : List ℕ} → row ≡ replicate {A = ℕ} (length scratch) 0 → {text view : List ℕ} → Sees text view (length scratch)
    → (room : ℕ) (mode : Mode) {r : Result Ends Refusal} {after : List ℕ} → Tells text (in_view view) row room mode r after → Tells text (in_view view) scratch room mode r after
cleared_tells scratch {row} e {text} {view} p room mode c =
    let l : length row ≡ length scratch = ap length e ∙ length-replicate {A = ℕ} (length scratch) 0 in
    let z : scratch_after text (in_view view) row ≡ scratch_after text (in_view view) scratch =
    scratch_zero row (still_sees scratch e p).passes ∙ ap (λ (k : ℕ). replicate {A = ℕ} k 0) l ∙ sym (scratch_zero scratch p.passes) in (
      c.0 ∙ ap (λ (k : ℕ). cut_answer mode text (in_view view) k room) l,
      c.1 ∙ (λ i. output (accepts mode text (in_view view) (l i) room) (cells_of (told_of mode (holds view) text)) (z i)),
    )

-- what is told by a view is told by the pool
pub told_by_view : {m : Option Words} {view : List ℕ} → Viewed m view → (text scratch : List ℕ) (room : ℕ) (mode : Mode) {r : Result Ends Refusal} {after : List ℕ}
    → Tells text (in_view view) scratch room mode r after → Tells text m scratch room mode r after
told_by_view z text scratch room mode {r} {after} = subst (λ (x : Option Words). Tells text x scratch room mode r after) (sym z.means)
