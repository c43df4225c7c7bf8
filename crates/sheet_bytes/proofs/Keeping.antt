-- Bytes that are kept at the front of a row. Assumes nothing.
use Rattle.std.proofs.Common.{arith, ℕ, ◌≡◌, ◌+◌, ◌-◌, ◌≤◌, ◌<◌, List, ◌++◌, length, take, refl, sym, ◌∙◌, ap}
use native.Mathlib.Decide.{dec_lt}
use lib.ListN.{length-append}
use lib.Seq.{length-take-le, take_all, take-append-add, drop-drop}
use mathlib.Core.List.{append_assoc}
use borrow.Rule.Slice.PartMut.{put_mid}
use Rattle.sheet_bytes.specs.Lines.{kept, laid}

-- the part has n bytes at most where the row has room for n more
pub kept_is : (row part : List ℕ) (used n : ℕ) → used ≤ length row → n ≤ length part → n ≤ length row - used
    → (n < length part → n ≡ length row - used) → kept row used part ≡ take used row ++ take n part
kept_is row part used n low short fits full =
    ap (λ k. take k (take used row ++ part)) at_end ∙ take-append-add (take used row) part (length row - used) ∙ ap (λ l. take used row ++ l) same
  where
    at_end : length row ≡ length (take used row) + (length row - used)
    at_end = omega (arith, length-take-le used row low)

    same : take (length row - used) part ≡ take n part
    same =
        elim (dec_lt n (length part)) [
          | yes l ↦ ap (λ k. take k part) (sym (full l))
          | no m ↦ take_all (length row - used) part (omega arith) ∙ sym (take_all n part (omega arith))
        ]

-- the part copied to its place
pub kept_mid : (row part mid : List ℕ) (used n k : ℕ) → used ≤ length row → n ≤ length part → n ≤ length row - used
    → (n < length part → n ≡ length row - used) → k ≡ n → mid ≡ take n part → put_mid used k row mid ≡ laid (kept row used part) row
kept_mid row part mid used n k low short fits full same is =
    let size : length (take used row ++ take n part) ≡ used + n = omega (arith, length-append (take used row) (take n part), length-take-le used row low, length-take-le n part short) in
    rw (kept_is row part used n low short fits full, same, is, size, append_assoc, drop-drop) refl
