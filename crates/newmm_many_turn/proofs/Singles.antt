-- What is answered and left for one text, whatever is wanted. Assumes nothing.
use Rattle.std.specs.Prelude.{Result, Err}
use Rattle.newmm_rules.specs.declared.Ends.{Ends}
use Prim.Native.Nat.{ℕ}
use mathlib.Core.Path.{◌≡◌, refl, sym, ◌∙◌, ap, subst}
use mathlib.Core.List.{List}
use mathlib.Core.Option.{Option}
use lib.ListN.{length, replicate, length-replicate}
use Rattle.refusal.specs.declared.Refusal.{Refusal}
use Rattle.refusal.specs.Answers.{answer, output}
use Rattle.trie_pool.specs.Meaning.{Words}
use Rattle.trie_check.specs.Refusals.{held}
use Rattle.newmm_rules.specs.declared.Mode.{Mode}
use Rattle.newmm_answers.specs.Answers.{first_causes, cut_answer, scratch_after}
use Rattle.newmm_answers.specs.inner.Passing.{in_view, Sees, Blank}
use Rattle.newmm_answers.proofs.Views.{Viewed}
use Rattle.newmm_reasons_answers.specs.Told.{told_of}
use Rattle.newmm_reasons_answers.specs.Answers.{pairs, pair_room, pairs_after}
use Rattle.newmm.proofs.Calls.{refused_all, refused_told, scratch_kept, early_cuts, still_sees, scratch_zero, now_blank, cleared_cuts}
use Rattle.newmm_many_answers.specs.declared.Wanted.{Wanted}
use Rattle.newmm_many_answers.specs.declared.Wanted.TheVariants as wants
use Rattle.newmm_many_answers.specs.Singles.{singly}
use Rattle.newmm_many_answers.specs.inner.Singles.{SingleIs}

-- ---- refusals 2 to 5

pub early_single : (wanted : Wanted) (mode : Mode) (text : List ℕ) (m : Option Words) (out scratch : List ℕ) {a : Result ℕ Refusal}
    → a ≡ answer (first_causes text m (length scratch)) (length text) → {r : Refusal} → a ≡ Err r
    → SingleIs (singly wanted mode m text out scratch) (Err r) out scratch
early_single wants.Ends mode text m out scratch is no' = early_cuts mode text m scratch is out no'
early_single wants.Pairs mode text m out scratch is no' = (
  refused_told mode text m scratch is no' (pair_room out),
  (
    sym (ap (λ (x : Result ℕ Refusal). output x (pairs (told_of mode (held m) text)) out) (refused_all mode text m scratch is no' (pair_room out))),
    scratch_kept mode text m scratch is no',
  ),
)

-- ---- past them

-- scratch is left as by a cut
scratch_left : (wanted : Wanted) (mode : Mode) (m : Option Words) (text out scratch : List ℕ) → (singly wanted mode m text out scratch).scratch ≡ scratch_after text m scratch
scratch_left wants.Ends mode m text out scratch = refl
scratch_left wants.Pairs mode m text out scratch = refl

module _ (wanted : Wanted) (mode : Mode) (text : List ℕ) {view : List ℕ} (out : List ℕ) where
  -- so it is all 0
  pub left_blank : (row : List ℕ) {r : Result Ends Refusal} {out' row' : List ℕ} → Sees text view (length row)
      → SingleIs (singly wanted mode (in_view view) text out row) r out' row' → Blank row'
  left_blank row p c = now_blank row (c.1.1 ∙ scratch_left wanted mode (in_view view) text out row ∙ scratch_zero row p.passes)

  -- what is answered by a view is answered by the pool
  pub single_by_view : {m : Option Words} → Viewed m view → (scratch : List ℕ) {r : Result Ends Refusal} {out' scratch' : List ℕ}
      → SingleIs (singly wanted mode (in_view view) text out scratch) r out' scratch' → SingleIs (singly wanted mode m text out scratch) r out' scratch'
  single_by_view z scratch {r} {out'} {scratch'} =
      subst (λ (x : Option Words). SingleIs (singly wanted mode x text out scratch) r out' scratch') (sym z.means)

-- what scratch held before it was cleared decides nothing
pub cleared_single : (wanted : Wanted) (mode : Mode) {text view : List ℕ} (out scratch : List ℕ) {row : List ℕ} → row ≡ replicate {A = ℕ} (length scratch) 0
    → Sees text view (length scratch) → {r : Result Ends Refusal} {out' row' : List ℕ}
    → SingleIs (singly wanted mode (in_view view) text out row) r out' row' → SingleIs (singly wanted mode (in_view view) text out scratch) r out' row'
cleared_single wants.Ends mode {text} {view} out scratch {row} e p {r} {out'} {row'} c = cleared_cuts scratch e p out mode c
cleared_single wants.Pairs mode {text} {view} out scratch {row} e p {r} {out'} {row'} c =
    let l : length row ≡ length scratch = ap length e ∙ length-replicate {A = ℕ} (length scratch) 0 in (
      c.0 ∙ ap (λ (k : ℕ). cut_answer mode text (in_view view) k (pair_room out)) l,
      (
        c.1.0 ∙ ap (λ (k : ℕ). pairs_after mode text (in_view view) k out) l,
        c.1.1 ∙ scratch_zero row (still_sees scratch e p).passes ∙ ap (λ (k : ℕ). replicate {A = ℕ} k 0) l ∙ sym (scratch_zero scratch p.passes),
      ),
    )

-- the one that is wanted
module _ {wanted : Wanted} (mode : Mode) (m : Option Words) (text out scratch : List ℕ) {r : Result Ends Refusal} {out' scratch' : List ℕ} where
  pub as_wanted : (w : Wanted) → wanted ≡ w → SingleIs (singly w mode m text out scratch) r out' scratch' → SingleIs (singly wanted mode m text out scratch) r out' scratch'
  as_wanted w e = subst (λ (x : Wanted). SingleIs (singly x mode m text out scratch) r out' scratch') (sym e)
