-- Single calls that are steady: the rows come back as long as they were, and what is written fits.
-- Assumes nothing.
use Rattle.std.specs.Prelude.{Result}
use Rattle.newmm_rules.specs.declared.Ends.{Ends}
use Rattle.refusal.specs.declared.Refusal.{Refusal}
use Prim.Native.Nat.{ℕ, ◌+◌, ◌*◌, ◌≤◌}
use native.Mathlib.Omega.{arith}
use mathlib.Core.Path.{◌≡◌, refl, sym, ◌∙◌, ap}
use mathlib.Core.List.{List}
use mathlib.Core.Option.{Option}
use lib.ListN.{length, length-drop}
use lib.Seq.{length-take-le}
use Rattle.trie_pool.specs.Meaning.{Words}
use Rattle.trie_check.specs.Refusals.{held}
use Rattle.newmm_rules.specs.declared.Mode.{Mode}
use Rattle.newmm_reasons_answers.specs.Told.{told_of}
use Rattle.newmm_reasons_answers.specs.Answers.{pairs, pair_room}
use Rattle.newmm_reasons_answers.proofs.Told.{as_many}
use Rattle.newmm_reasons_answers.proofs.Cells.{pairs_long}
use Rattle.newmm_many_answers.specs.declared.Wanted.{Wanted}
use Rattle.newmm_many_answers.specs.declared.Wanted.TheVariants as wants
use Rattle.newmm_many_answers.specs.Turns.{Singly, ends_told, wrote_of, rest_of}
use Rattle.newmm_many_answers.specs.Singles.{cut_singly, reasons_singly, singly}
use Rattle.newmm_many_answers.specs.inner.Small.{Small}
use Rattle.newmm_many_answers.specs.inner.Singles.{width_of}
use Rattle.newmm_many_answers.proofs.Answered.{ends, told_fits, written_as_long, scratch_as_long}
use Rattle.newmm_many_answers.proofs.Small.{small}

-- `width` cells are written for a token
pub record Steady (one : Singly) : Type 0 where
  pub width : ℕ
  pub cells_are : (text out scratch : List ℕ) → (one text out scratch).cells ≡ width * ends_told (one text out scratch).told
  pub cells_fit : (text out scratch : List ℕ) → (one text out scratch).cells ≤ length out
  pub out_long : (text out scratch : List ℕ) → length (one text out scratch).out ≡ length out
  pub scratch_long : (text out scratch : List ℕ) → length (one text out scratch).scratch ≡ length scratch
  pub told_small : (text out scratch : List ℕ) → length text ≤ 4294967295 → Small (one text out scratch).told

module _ (mode : Mode) (m : Option Words) where
  pub cut_steady : Steady (cut_singly mode m)
  cut_steady =
      record {
        width = 1;
        cells_are = λ text out scratch. omega arith;
        cells_fit = λ text out scratch. told_fits mode text m (length scratch) (length out);
        out_long = λ text out scratch.
            written_as_long mode text m (length scratch) (length out) (ends mode text m (length scratch) (length out)) out (λ h. h);
        scratch_long = λ text out scratch. scratch_as_long text m scratch;
        told_small = λ text out scratch size. small mode text m (length scratch) (length out) size;
      }

  pub reasons_steady : Steady (reasons_singly mode m)
  reasons_steady =
      record {
        width = 2;
        cells_are = λ text out scratch. refl;
        cells_fit = λ text out scratch. omega (arith, told_fits mode text m (length scratch) (pair_room out));
        out_long = λ text out scratch.
            written_as_long mode text m (length scratch) (pair_room out) (pairs (told_of mode (held m) text)) out
            (λ h. omega (arith, h, pairs_long (told_of mode (held m) text), as_many (held m) text mode));
        scratch_long = λ text out scratch. scratch_as_long text m scratch;
        told_small = λ text out scratch size. small mode text m (length scratch) (pair_room out) size;
      }

  pub steady : (wanted : Wanted) → Steady (singly wanted mode m)
  steady wants.Ends = cut_steady
  steady wants.Pairs = reasons_steady

  pub steady_width : (wanted : Wanted) → (steady wanted).width ≡ width_of wanted
  unfolding steady cut_steady reasons_steady
  steady_width wants.Ends = refl
  steady_width wants.Pairs = refl

  pub by_width : (wanted : Wanted) (told : Result Ends Refusal) {n : ℕ} → n ≡ width_of wanted * ends_told told → n ≡ (steady wanted).width * ends_told told
  by_width wanted told e = e ∙ ap (λ (w : ℕ). w * ends_told told) (sym (steady_width wanted))

-- ---- what was written, and the rest

module _ {one : Singly} (st : Steady one) (text out scratch : List ℕ) where
  pub wrote_long : length (wrote_of (one text out scratch)) ≡ (one text out scratch).cells
  wrote_long =
      length-take-le (one text out scratch).cells (one text out scratch).out (omega (arith, st.cells_fit text out scratch, st.out_long text out scratch))

  pub rest_long : length (rest_of (one text out scratch)) + (one text out scratch).cells ≡ length out
  rest_long =
      omega (arith, length-drop (one text out scratch).cells (one text out scratch).out, st.cells_fit text out scratch, st.out_long text out scratch)
