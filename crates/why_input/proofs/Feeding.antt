-- Input, part by part: the rows. Assumes nothing.
use Prim.Native.Nat.{ℕ}
use mathlib.Core.Path.{◌≡◌, refl, sym, subst}
use mathlib.Core.Bool.{Bool}
use mathlib.Core.List.{List, []}
use lib.ListN.{length, take}
use Rattle.sheet_replies.specs.declared.Asked.TheVariants.{Nothing}
use Rattle.sheet_bytes.specs.Lines.{line_end, kept, laid}
use Rattle.sheet_replies.specs.Replies.{text_of, PoolAfter, decoded_after, scratch_after}
use Rattle.sheet_input.specs.Feeding.{line_with, has_end}
use Rattle.sheet_input.proofs.Feeding.{open_line, end_line}
use Rattle.why_replies.specs.Replies.{asked, pairs_after, RowsAfter}
use Rattle.why_input.specs.Feeding.{asked_if}

-- nothing asked, nothing changed
untouched : (text pool scalars positions pairs scratch : List ℕ) → RowsAfter Nothing text pool pool scalars scalars positions positions pairs pairs scratch scratch
unfolding PoolAfter decoded_after pairs_after scratch_after
untouched text pool scalars positions pairs scratch = record { pool_is = refl; scalars_are = refl; positions_are = refl; pairs_are = refl; scratch_is = refl }

asks_nothing : Nothing ≡ asked []
unfolding asked
asks_nothing = refl

-- bytes that are fed
module _ (bytes line : List ℕ) (used : ℕ) {end n : ℕ} {line₁ : List ℕ} (e : end ≡ line_end bytes) (size : n ≡ length (kept line used (take end bytes)))
    (is : line₁ ≡ laid (kept line used (take end bytes)) line) where
  pub open_rows : end ≡ length bytes → (pool scalars positions pairs scratch : List ℕ)
      → RowsAfter (asked_if (has_end bytes) (line_with bytes line used)) (text_of (line_with bytes line used)) pool pool scalars scalars positions positions pairs pairs scratch scratch
  open_rows h pool scalars positions pairs scratch =
      open_line bytes line used e size is h (λ (b : Bool) (l : List ℕ). RowsAfter (asked_if b l) (text_of l) pool pool scalars scalars positions positions pairs pairs scratch scratch)
      (untouched (text_of (line_with bytes line used)) pool scalars positions pairs scratch)

  pub end_rows : (end ≡ length bytes → ⊥) → {whole : List ℕ} → whole ≡ take n line₁ → (pool scalars positions pairs scratch : List ℕ) {pool₁ scalars₁ positions₁ pairs₁ scratch₁ : List ℕ}
      → RowsAfter (asked whole) (text_of whole) pool pool₁ scalars scalars₁ positions positions₁ pairs pairs₁ scratch scratch₁
      → RowsAfter (asked_if (has_end bytes) (line_with bytes line used)) (text_of (line_with bytes line used)) pool pool₁ scalars scalars₁ positions positions₁ pairs pairs₁ scratch scratch₁
  end_rows h w pool scalars positions pairs scratch {pool₁} {scalars₁} {positions₁} {pairs₁} {scratch₁} q =
      end_line bytes line used e size is h w (λ (b : Bool) (l : List ℕ). RowsAfter (asked_if b l) (text_of l) pool pool₁ scalars scalars₁ positions positions₁ pairs pairs₁ scratch scratch₁) q

-- a last line
pub no_rows : (n : ℕ) → n ≡ 0 → (line pool scalars positions pairs scratch : List ℕ) → RowsAfter (asked (take n line)) (text_of (take n line)) pool pool scalars scalars positions positions pairs pairs scratch scratch
no_rows n h line pool scalars positions pairs scratch =
    subst (λ (k : ℕ). RowsAfter (asked (take k line)) (text_of (take k line)) pool pool scalars scalars positions positions pairs pairs scratch scratch) (sym h)
    (subst (λ a. RowsAfter a [] pool pool scalars scalars positions positions pairs pairs scratch scratch) asks_nothing (untouched [] pool scalars positions pairs scratch))

pub last_rows : (line : List ℕ) (n : ℕ) → (n ≡ 0 → ⊥) → {whole : List ℕ} → whole ≡ take n line → (pool scalars positions pairs scratch : List ℕ) {pool₁ scalars₁ positions₁ pairs₁ scratch₁ : List ℕ}
    → RowsAfter (asked whole) (text_of whole) pool pool₁ scalars scalars₁ positions positions₁ pairs pairs₁ scratch scratch₁
    → RowsAfter (asked (take n line)) (text_of (take n line)) pool pool₁ scalars scalars₁ positions positions₁ pairs pairs₁ scratch scratch₁
last_rows line n h w pool scalars positions pairs scratch {pool₁} {scalars₁} {positions₁} {pairs₁} {scratch₁} q =
    subst (λ (l : List ℕ). RowsAfter (asked l) (text_of l) pool pool₁ scalars scalars₁ positions positions₁ pairs pairs₁ scratch scratch₁) w q
